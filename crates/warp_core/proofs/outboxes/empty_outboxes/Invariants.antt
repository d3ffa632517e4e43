use Rattle.std.proofs.Common.{◌≡◌, [], ℕ, length}
use Rattle.warp_core.specs.Regions.{items_at}
use Rattle.warp_core.proofs.outboxes.empty_outboxes.Given as goal

abbrev pub invariant-loop : goal.invariant-loop
invariant-loop l = record {
  long : length l.outboxes.items ≡ l.counter;
  empty : (j : ℕ) → items_at l.outboxes.items j ≡ [];
}
