use Rattle.std.proofs.Common.{◌≡◌, ◌+◌, ◌-◌, ◌<◌, ◌≤◌, length, map}
use Rattle.std.specs.List.{All}
use Rattle.bench_read.specs.Order.{placed_after, order_of}
use Rattle.bench_read.specs.Placing.{Covers}
use Rattle.bench_read.specs.Readings.{item_of}
use Rattle.bench_read.proofs.placing.place_gates.Given as goal

abbrev pub invariant-loop : goal.invariant-loop
invariant-loop l = record {
  count : l.order.count ≡ length l.items;
  few : length l.order.placed ≤ length l.items + l.counter;
  rest : placed_after (length l.items - l.counter) (map item_of l.items) l.order.placed ≡ order_of (map item_of l.items);
  covers : Covers (map item_of l.items) l.order.placed l.ready;
  bound : All (λ d. d < length l.items) l.ready;
}
