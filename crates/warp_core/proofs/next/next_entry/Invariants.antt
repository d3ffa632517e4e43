use Rattle.std.proofs.Common.{◌≡◌}
use Rattle.border.specs.Stacked.{stack_of}
use Rattle.warp_core.specs.Choices.{first_entry}
use Rattle.warp_core.proofs.next.next_entry.Given as goal

abbrev pub invariant-loop-sender : goal.invariant-loop-sender
invariant-loop-sender l = l.best ≡ first_entry l.plan l.cut l.region l.surface.sites (stack_of l.stacks) l.clock l.until l.sender
