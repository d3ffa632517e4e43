use Rattle.run_writer.proofs.Applying.{Applying}
use Rattle.run_writer.proofs.counting.apply_events.Given as goal

abbrev pub invariant-loop-event : goal.invariant-loop-event
invariant-loop-event l = Applying l.plan l.fn.surface l.surface l.tick l.last l.events l.event-index
