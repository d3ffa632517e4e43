use Rattle.std.proofs.Common.{◌≡◌}
use Rattle.warp_core.specs.SettlingLoops.{IsPassing}
use Rattle.crew.proofs.settling.pass.Given as goal

abbrev pub invariant-loop-i : goal.invariant-loop-i
invariant-loop-i g l = (g.M.Machine.world l.m ≡ g.M.Machine.world l.fn.m) × IsPassing (g.M.Machine.world l.fn.m) (g.M.Machine.core l.fn.m) (g.M.Machine.core l.m) l.key l.i × (g.M.Machine.rest l.m ≡ g.M.Machine.rest l.fn.m)
