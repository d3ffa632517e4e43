use Rattle.std.proofs.Common.{◌≡◌}
use Rattle.warp_core.specs.Cores.{Core}
use Rattle.warp_core.specs.SettlingLoops.{IsFinishing}
use Rattle.crew.proofs.settling.finish.Given as goal

abbrev pub invariant-loop-i : goal.invariant-loop-i
invariant-loop-i g l =
    (g.M.Machine.world l.m ≡ g.M.Machine.world l.fn.m)
    × ((old : Core) → (g.M.Machine.core l.fn.m).horizon ≡ old.horizon → IsFinishing (g.M.Machine.world l.fn.m) old (g.M.Machine.core l.m) l.i)
    × (g.M.Machine.rest l.m ≡ g.M.Machine.rest l.fn.m)
