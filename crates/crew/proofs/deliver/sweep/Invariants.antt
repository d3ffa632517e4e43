use Rattle.std.proofs.Common.{◌≡◌}
use Rattle.warp_core.specs.SettlingLoops.{Swept, RowsEmpty}
use Rattle.crew.proofs.deliver.sweep.Given as goal

abbrev pub invariant-loop-from : goal.invariant-loop-from
invariant-loop-from g l = (g.M.Machine.world l.m ≡ g.M.Machine.world l.fn.m) × Swept (g.M.Machine.world l.fn.m) (g.M.Machine.core l.fn.m) (g.M.Machine.core l.m) l.moved (RowsEmpty (g.M.Machine.world l.fn.m) l.from) × (g.M.Machine.rest l.m ≡ g.M.Machine.rest l.fn.m)
