use Rattle.std.proofs.Common.{append_assoc}
use Rattle.run_writer.specs.StressText.{stress_line}
use Rattle.run_writer.proofs.counting.stress_line.Goals as goal

pub returns : goal.returns
unfolding stress_line
returns c = simp append_assoc c.format.ensures.ok
