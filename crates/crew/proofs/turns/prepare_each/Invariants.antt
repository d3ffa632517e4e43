use Rattle.std.proofs.Common.{◌≡◌, ℕ, ◌*◌, ◌<◌, ◌≤◌, slice_index_or}
use Rattle.region_run.specs.declared.region.Region.{Region}
use Rattle.crew.proofs.Lists.{HasPrepared}
use Rattle.crew.proofs.turns.prepare_each.Given as goal

abbrev pub invariant-loop-i : goal.invariant-loop-i
invariant-loop-i l = record {
  past : (k : ℕ) (d : Region) → k < l.i → HasPrepared l.quota (slice_index_or l.fn.regions k d) (slice_index_or l.regions k d);
  rest : (k : ℕ) (d : Region) → l.i ≤ k → slice_index_or l.regions k d ≡ slice_index_or l.fn.regions k d;
}
