use Rattle.std.proofs.Common.{length}
use Rattle.region_run.specs.Channels.{IsMoved}
use Rattle.region_run.proofs.side.Side.flush.Given as goal

abbrev pub invariant-loop : goal.invariant-loop
invariant-loop l = IsMoved l.initial.self l.self

abbrev pub decreases-loop : goal.decreases-loop
decreases-loop l = length l.self.outbox
