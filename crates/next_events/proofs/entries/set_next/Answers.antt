use Rattle.next_events.proofs.Refreshing.{event_place}
use Rattle.next_events.proofs.entries.set_next.Goals as goal

pub set-requires-clause-event : goal.set-requires-clause-event
set-requires-clause-event c = event_place c.args.plan.now c.args.surface.now.sites c.args.place c.next.result c.next.ensures
