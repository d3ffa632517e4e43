use Rattle.std.proofs.Common.{◌≡◌, ℕ, length}
use Rattle.warp_core.specs.Regions.{items_at, HaveRoom}
use Rattle.warp_core.proofs.outboxes.make_room.Given as goal

abbrev pub invariant-loop-i : goal.invariant-loop-i
invariant-loop-i l = record {
  long : length l.outboxes.items ≡ length l.fn.outboxes.items;
  same : (j : ℕ) → items_at l.outboxes.items j ≡ items_at l.fn.outboxes.items j;
  room : HaveRoom 0 l.i l.outboxes.items;
}
