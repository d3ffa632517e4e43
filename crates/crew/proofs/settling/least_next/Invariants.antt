use Rattle.warp_core.specs.Settling.{IsLeastNext}
use Rattle.crew.proofs.settling.least_next.Given as goal

abbrev pub invariant-loop-i : goal.invariant-loop-i
invariant-loop-i g l = IsLeastNext (g.M.Machine.world l.m) (g.M.Machine.core l.m) l.i l.least
