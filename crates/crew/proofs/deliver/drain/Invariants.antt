use Rattle.std.proofs.Common.{◌≡◌}
use Rattle.warp_core.specs.Settling.{load}
use Rattle.warp_core.specs.SettlingLoops.{Swept}
use Rattle.crew.proofs.deliver.drain.Given as goal

abbrev pub invariant-loop-moved : goal.invariant-loop-moved
invariant-loop-moved g l = (g.M.Machine.world l.m ≡ g.M.Machine.world l.fn.m) × Swept (g.M.Machine.world l.fn.m) (g.M.Machine.core l.fn.m) (g.M.Machine.core l.m) l.moved (λ _. Unit {0}) × (g.M.Machine.rest l.m ≡ g.M.Machine.rest l.fn.m)

abbrev pub decreases-loop-moved : goal.decreases-loop-moved
decreases-loop-moved g l = load (g.M.Machine.world l.m) (g.M.Machine.core l.m)
