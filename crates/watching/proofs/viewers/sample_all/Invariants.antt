use Rattle.std.proofs.Common.{◌≡◌, ℕ, ◌<◌, slice_index_or, length}
use Rattle.viewer.specs.declared.viewer.Viewer.{Viewer}
use Rattle.watching.specs.Viewing.{HasSampled}
use Rattle.watching.proofs.viewers.sample_all.Given as goal

abbrev pub invariant-loop : goal.invariant-loop
invariant-loop l = (length l.viewers.items ≡ length l.fn.viewers.items)
    × ((k : ℕ) (d : Viewer) → k < length l.fn.viewers.items → HasSampled l.counter (slice_index_or l.fn.viewers.items k d) (slice_index_or l.viewers.items k d))
