use Rattle.std.proofs.Common.{ℕ, ◌<◌, length, slice_index_or}
use Rattle.region_run.specs.declared.region.Region.{Region}
use Rattle.crew.specs.Calls.{IsUptoClock, IsClockOf}
use Rattle.crew.proofs.commit.least_clock.Given as goal

abbrev pub invariant-loop-i : goal.invariant-loop-i
invariant-loop-i l = record {
  least : (k : ℕ) (d : Region) → k < l.i → IsUptoClock l.least (slice_index_or l.regions k d);
  some : (d : Region) → (k : ℕ) × (k < length l.regions) × IsClockOf l.least (slice_index_or l.regions k d);
}
