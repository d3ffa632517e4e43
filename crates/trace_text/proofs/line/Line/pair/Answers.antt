use Rattle.std.proofs.Common.{append_assoc}
use Rattle.trace_text.proofs.line.Line.pair.Goals as goal

pub returns : goal.returns
returns c = simp append_assoc cc
