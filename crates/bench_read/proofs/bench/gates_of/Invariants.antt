use Rattle.std.proofs.Common.{◌≡◌, map, take}
use Rattle.bench_read.specs.Netlists.{gates_among}
use Rattle.bench_read.specs.Readings.{item_of, gate_of}
use Rattle.bench_read.proofs.bench.gates_of.Given as goal

abbrev pub invariant-loop-number : goal.invariant-loop-number
invariant-loop-number l = map gate_of l.gates.items ≡ gates_among (map item_of l.items) l.order.placed (take l.number-index l.order.placed)
