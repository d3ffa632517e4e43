use Rattle.std.proofs.Common.{None, ◌∙◌, lit≤}
use Rattle.std.proofs.lemmas.Str.Pattern.{strip_prefix_char}
use Rattle.manifest_read.proofs.Pieces.{no-bracket}
use Rattle.manifest_read.proofs.rules.read_rule.Goals as goal

pub returns-in-None : goal.returns-in-None
returns-in-None c = c.by_arrow.ensures ∙ no-bracket c.args.text.now (strip_prefix_char 40 c.args.text.now None c.in-None.ensures.cases (lit≤ tt))
