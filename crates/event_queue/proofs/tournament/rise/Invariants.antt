use Rattle.std.proofs.Common.{◌≡◌, ℕ, ◌<◌, ◌≤◌, length}
use Rattle.event_queue.specs.Tournament.{IsTournamentBut, entry_at, parent}
use Rattle.event_queue.proofs.tournament.rise.Given as goal

abbrev pub invariant-loop-at : goal.invariant-loop-at
invariant-loop-at l = record {
  long : length l.nodes ≡ length l.initial.nodes;
  root : 6 ≤ l.at;
  within : l.at < length l.initial.nodes;
  written : entry_at l.nodes l.at ≡ l.new;
  ordered : IsTournamentBut l.nodes (parent (length l.initial.nodes)) l.at l.old;
  leaves : (j : ℕ) → parent (length l.initial.nodes) ≤ j → entry_at l.nodes j ≡ entry_at l.initial.nodes j;
}

abbrev pub decreases-loop-at : goal.decreases-loop-at
decreases-loop-at l = l.at
