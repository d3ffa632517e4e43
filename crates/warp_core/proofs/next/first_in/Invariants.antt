use Rattle.std.proofs.Common.{◌≡◌, drop}
use Rattle.warp_core.specs.Choices.{first_in}
use Rattle.warp_core.proofs.next.first_in.Given as goal

abbrev pub invariant-loop-event : goal.invariant-loop-event
invariant-loop-event l = first_in l.clock l.until l.best (drop l.event-index l.stack) ≡ first_in l.clock l.until l.fn.first l.stack
