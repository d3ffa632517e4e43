use Rattle.std.proofs.Common.{◌≡◌, ◌+◌, length}
use Rattle.std.specs.List.{list_all}
use Rattle.species.specs.Texts.{is_in}
use Rattle.bench_read.specs.Lines.{is_name, operands_of}
use Rattle.bench_read.proofs.operands.are_names.Given as goal

abbrev pub invariant-loop-operand : goal.invariant-loop-operand
invariant-loop-operand l = record { same : list_all is_name l.operands ≡ list_all is_name (operands_of l.inside) }

abbrev pub decreases-loop-operand : goal.decreases-loop-operand
decreases-loop-operand l = length l.operands
