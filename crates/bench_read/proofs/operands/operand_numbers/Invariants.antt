use Rattle.std.proofs.Common.{◌≡◌, ◌++◌, length, map, true}
use Rattle.std.specs.List.{list_all}
use Rattle.species.specs.Texts.{is_in, index_of}
use Rattle.bench_read.specs.Lines.{operands_of}
use Rattle.bench_read.proofs.operands.operand_numbers.Given as goal

abbrev pub invariant-loop-operand : goal.invariant-loop-operand
invariant-loop-operand l = record {
  so_far : l.numbers.items ++ map (index_of l.names) l.operands ≡ map (index_of l.names) (operands_of l.inside);
  known : list_all (is_in l.names) l.operands ≡ true;
}

abbrev pub decreases-loop-operand : goal.decreases-loop-operand
decreases-loop-operand l = length l.operands
