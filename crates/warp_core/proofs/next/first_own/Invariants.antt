use Rattle.std.proofs.Common.{◌≡◌}
use Rattle.warp_core.specs.Choices.{first_own}
use Rattle.warp_core.proofs.next.first_own.Given as goal

abbrev pub invariant-loop-number : goal.invariant-loop-number
invariant-loop-number l = l.best ≡ first_own l.plan l.cut l.region l.surface.sites l.clock l.until l.number
