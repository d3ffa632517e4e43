use Rattle.std.proofs.Common.{◌∙◌}
use Rattle.trace_text.specs.Lines.{heading_text}
use Rattle.surf_outside.proofs.LawLemmas.{puts_as}
use Rattle.trace_text.proofs.Texts.{heading-is}
use Rattle.trace_text.proofs.lines.write_heading.Goals as goal

pub returns : goal.returns
returns g c = puts_as (heading_text c.args.tick c.args.events) (heading-is c.args.tick c.args.events _ (c.bytes.ensures ∙ c.pair-line.ensures)) c.put.ensures
