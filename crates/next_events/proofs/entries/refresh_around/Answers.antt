use Rattle.std.proofs.Common.{arith, take}
use Rattle.next_events.proofs.Refreshing.{listed_all}
use Rattle.next_events.proofs.entries.refresh_around.Goals as goal

pub returns : goal.returns
returns g c =
    listed_all c.args.plan.now c.args.surface.now.sites (g.P.Places.has c.args.places) c.args.queue.now c.loop-place.queue (take c.from.result c.places_of-around.result.list) c.args.site.0 c.loop-place.place-index
    c.loop-place.invariant.places (omega (arith, c.loop-place-test.false)) (omega arith) c.loop-place.invariant.refreshed
