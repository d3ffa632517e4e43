use Rattle.std.proofs.Common.{◌≡◌, ℕ, ◌<◌, ◌≤◌, length, slice_index_or}
use Rattle.warp_core.specs.declared.region.Region.{Region}
use Rattle.warp_core.specs.Commits.{IsForgotten}
use Rattle.warp_core.proofs.commit.forget_all.Given as goal

abbrev pub invariant-loop-i : goal.invariant-loop-i
invariant-loop-i l = record {
  long : length l.regions.items ≡ length l.fn.regions.items;
  done : (k : ℕ) (d : Region) → k < l.i → IsForgotten l.key (slice_index_or l.fn.regions.items k d) (slice_index_or l.regions.items k d);
  rest : (k : ℕ) (d : Region) → l.i ≤ k → slice_index_or l.regions.items k d ≡ slice_index_or l.fn.regions.items k d;
}
