use Rattle.std.proofs.Common.{append_assoc}
use Rattle.watching.specs.Lines.{head_text}
use Rattle.watching.proofs.lines.head.Goals as goal

pub returns : goal.returns
unfolding head_text
returns c = simp append_assoc c.format.ensures.ok
