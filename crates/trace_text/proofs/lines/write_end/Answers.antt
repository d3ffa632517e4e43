use Rattle.std.proofs.Common.{◌≡◌, ◌∙◌}
use Rattle.trace_text.specs.Lines.{end_text}
use Rattle.trace_text.proofs.Texts.{end-is}
use Rattle.trace_text.proofs.lines.write_end.Goals as goal

pub returns-clause-ok : goal.returns-clause-ok
returns-clause-ok g c =
    let e : c.bytes.result.now ≡ end_text c.args.until c.args.events = end-is c.args.until c.args.events _ (c.bytes.ensures ∙ c.pair-line.ensures) in
    rw (← e) c.put.ensures.ok

pub returns-clause-err : goal.returns-clause-err
returns-clause-err g c =
    let e : c.bytes.result.now ≡ end_text c.args.until c.args.events = end-is c.args.until c.args.events _ (c.bytes.ensures ∙ c.pair-line.ensures) in
    rw (← e) c.put.ensures.err
