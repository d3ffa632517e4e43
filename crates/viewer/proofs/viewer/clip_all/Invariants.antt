use Rattle.std.proofs.Common.{◌≡◌, ◌++◌, map, take, drop, length, All}
use Rattle.viewer.specs.Samples.{clipped}
use Rattle.viewer.proofs.viewer.clip_all.Given as goal

abbrev pub invariant-loop-i : goal.invariant-loop-i
invariant-loop-i l =
    (l.samples.items ≡ map (clipped l.told) (take l.i l.fn.samples.items) ++ drop l.i l.fn.samples.items)
    × All (λ s. length s.counts ≡ length l.told.counts) l.samples.items
    × (length l.samples.items ≡ length l.fn.samples.items)
