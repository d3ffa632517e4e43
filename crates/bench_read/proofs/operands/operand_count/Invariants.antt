use Rattle.std.proofs.Common.{◌≡◌, ◌+◌, length}
use Rattle.bench_read.specs.Lines.{operands_of}
use Rattle.bench_read.proofs.operands.operand_count.Given as goal

abbrev pub invariant-loop-count : goal.invariant-loop-count
invariant-loop-count l = record { same : l.count + length l.operands ≡ length (operands_of l.inside) }

abbrev pub decreases-loop-count : goal.decreases-loop-count
decreases-loop-count l = length l.operands
