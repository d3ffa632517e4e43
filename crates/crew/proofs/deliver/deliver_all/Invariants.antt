use Rattle.std.proofs.Common.{◌≡◌, ◌+◌, false, if◌then◌else◌}
use Rattle.warp_core.specs.Settling.{load, TakesTo, AreEmpty}
use Rattle.crew.proofs.deliver.deliver_all.Given as goal

abbrev pub invariant-loop-moved : goal.invariant-loop-moved
invariant-loop-moved g l =
    (g.M.Machine.world l.m ≡ g.M.Machine.world l.fn.m)
    × TakesTo (g.M.Machine.world l.fn.m) (g.M.Machine.core l.fn.m) (g.M.Machine.core l.m)
    × (l.n ≡ (g.M.Machine.world l.fn.m).regions)
    × (l.moved ≡ false → AreEmpty (g.M.Machine.world l.m) (g.M.Machine.core l.m))
    × (g.M.Machine.rest l.m ≡ g.M.Machine.rest l.fn.m)

abbrev pub decreases-loop-moved : goal.decreases-loop-moved
decreases-loop-moved g l = load (g.M.Machine.world l.m) (g.M.Machine.core l.m) + (if l.moved then 1 else 0)
