use Rattle.std.proofs.Common.{◌≡◌, ℕ, ◌<◌, ◌≤◌, slice_index_or, length}
use Rattle.viewer.specs.declared.viewer.Viewer.{Viewer}
use Rattle.watching.specs.Viewing.{HasSampled}
use Rattle.watching.proofs.viewers.sample_each.Given as goal

abbrev pub invariant-loop-i : goal.invariant-loop-i
invariant-loop-i l = (length l.viewers.items ≡ length l.fn.viewers.items)
    × ((k : ℕ) (d : Viewer) → k < l.i → HasSampled 1 (slice_index_or l.fn.viewers.items k d) (slice_index_or l.viewers.items k d))
    × ((k : ℕ) (d : Viewer) → l.i ≤ k → slice_index_or l.viewers.items k d ≡ slice_index_or l.fn.viewers.items k d)
