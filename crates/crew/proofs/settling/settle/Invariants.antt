use Rattle.std.proofs.Common.{◌≡◌}
use Rattle.warp_core.specs.Settling.{lag, IsSettling}
use Rattle.crew.proofs.settling.settle.Given as goal

abbrev pub invariant-loop-key : goal.invariant-loop-key
invariant-loop-key g l =
    (g.M.Machine.world l.m ≡ g.M.Machine.world l.fn.m)
    × (l.n ≡ (g.M.Machine.world l.fn.m).regions)
    × IsSettling (g.M.Machine.world l.fn.m) (g.M.Machine.core l.fn.m) (g.M.Machine.core l.m) l.key
    × (g.M.Machine.rest l.m ≡ g.M.Machine.rest l.fn.m)

abbrev pub decreases-loop-key : goal.decreases-loop-key
decreases-loop-key g l = lag (g.M.Machine.world l.m) (g.M.Machine.core l.m) l.key
