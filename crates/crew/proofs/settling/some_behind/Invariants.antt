use Rattle.warp_core.specs.Settling.{ArePast}
use Rattle.crew.proofs.settling.some_behind.Given as goal

abbrev pub invariant-loop-i : goal.invariant-loop-i
invariant-loop-i g l = ArePast (g.M.Machine.core l.m) l.key l.i
