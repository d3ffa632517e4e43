use Rattle.std.proofs.Common.{◌≡◌}
use Rattle.plan.specs.Next.{least_upto}
use Rattle.plan.proofs.rescan.least.Given as goal

abbrev pub invariant-loop-place : goal.invariant-loop-place
invariant-loop-place l = l.best ≡ least_upto l.plan l.sites l.place
