use Rattle.std.proofs.Common.{◌≡◌, ℕ, vec_len, vec_capacity}
use Rattle.event_queue.specs.Tournament.{entry_at}
use Rattle.event_queue.proofs.tournament.make.Given as goal

abbrev pub invariant-loop-made : goal.invariant-loop-made
invariant-loop-made l = record {
  len : vec_len l.nodes ≡ l._made;
  same : (j : ℕ) → entry_at l.nodes.items j ≡ entry_at l.initial.nodes.items j;
  capacity : vec_capacity l.nodes ≡ vec_capacity l.initial.nodes;
}
