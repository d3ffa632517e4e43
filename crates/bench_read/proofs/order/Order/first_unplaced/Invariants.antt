use Rattle.std.proofs.Common.{◌≡◌, ℕ, ◌<◌, get_or}
use Rattle.bench_read.specs.Order.{is_placed}
use Rattle.bench_read.proofs.order.Order.first_unplaced.Given as goal

abbrev pub invariant-loop-item : goal.invariant-loop-item
invariant-loop-item l = (k : ℕ) → k < l.item → get_or l.place-items k 0 ≡ 4294967295 → ⊥
