use Rattle.std.proofs.Common.{◌≡◌, length, map}
use Rattle.bench_read.specs.Readings.{item_of}
use Rattle.bench_read.proofs.Steps.{first_inputs}
use Rattle.bench_read.proofs.placing.place_inputs.Given as goal

abbrev pub invariant-loop-number : goal.invariant-loop-number
invariant-loop-number l = record {
  count : l.order.count ≡ length l.items;
  placed : l.order.placed ≡ first_inputs (map item_of l.items) l.number;
}
