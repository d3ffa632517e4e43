use Rattle.std.proofs.Common.{◌≡◌, ℕ, ◌<◌, true, length, map}
use Rattle.std.specs.List.{All, Contains}
use Rattle.bench_read.specs.Order.{is_ready}
use Rattle.bench_read.specs.Readings.{item_of}
use Rattle.bench_read.proofs.placing.all_ready.Given as goal

abbrev pub invariant-loop-number : goal.invariant-loop-number
invariant-loop-number l = record {
  covers : (d : ℕ) → d < l.number → is_ready (map item_of l.items) l.order.placed d ≡ true → Contains l.ready d;
  bound : All (λ d. d < length l.items) l.ready;
}
