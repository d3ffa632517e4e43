use Rattle.std.proofs.Common.{◌≡◌, ℕ, ◌<◌, true, length, map, get_or}
use Rattle.std.specs.List.{All, Contains}
use Rattle.bench_read.specs.Order.{is_ready}
use Rattle.bench_read.specs.Readings.{item_of}
use Rattle.bench_read.proofs.placing.offer_each.Given as goal

abbrev pub invariant-loop-number : goal.invariant-loop-number
invariant-loop-number l = record {
  offered : (k : ℕ) → k < l.number-index → is_ready (map item_of l.items) l.order.placed (get_or l.numbers k 0) ≡ true → Contains l.ready (get_or l.numbers k 0);
  kept : (d : ℕ) → Contains l.fn.ready d → Contains l.ready d;
  bound : All (λ d. d < length l.items) l.ready;
}
