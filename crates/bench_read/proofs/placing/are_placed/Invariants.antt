use Rattle.std.proofs.Common.{◌≡◌, drop}
use Rattle.std.specs.List.{list_all}
use Rattle.bench_read.specs.Order.{is_placed}
use Rattle.bench_read.proofs.placing.are_placed.Given as goal

abbrev pub invariant-loop-operand : goal.invariant-loop-operand
invariant-loop-operand l = record { rest : list_all (is_placed l.order.placed) (drop l.operand-index l.operands) ≡ list_all (is_placed l.order.placed) l.operands }
