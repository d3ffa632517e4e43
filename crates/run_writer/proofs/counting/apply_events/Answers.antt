use Rattle.std.proofs.Common.{refl, arith}
use Rattle.run_writer.proofs.Applying.{at_place, of_channel, with_room, with_pair, of_species, applying_due, applying_step, applying_same, applying_last}
use Rattle.run_writer.proofs.counting.apply_events.Goals as goal

pub loop-event-init : goal.loop-event-init
loop-event-init c = record { goes_on = c.requires.goes_on; until = c.requires.next.0; long = c.requires.next.1; next = c.requires.next.2; same = refl; time = refl }

pub products-requires : goal.products-requires
products-requires c =
    let t = c.loop-event.invariant in
    of_channel c.args.plan.now t.until c.loop-event.surface _ t.goes_on (applying_due c.args.plan.now c.args.surface.now c.loop-event.surface c.args.tick c.loop-event.last c.args.events.now c.loop-event.event-index _ t c.loop-event-test.true)

pub apply-requires-clause-place : goal.apply-requires-clause-place
apply-requires-clause-place c =
    let t = c.loop-event.invariant in
    at_place c.args.plan.now t.until c.loop-event.surface _ t.goes_on (applying_due c.args.plan.now c.args.surface.now c.loop-event.surface c.args.tick c.loop-event.last c.args.events.now c.loop-event.event-index _ t c.loop-event-test.true)

pub apply-requires-clause-pair : goal.apply-requires-clause-pair
apply-requires-clause-pair c =
    let t = c.loop-event.invariant in
    with_pair c.args.plan.now t.until c.loop-event.surface _ c.products.result t.goes_on (applying_due c.args.plan.now c.args.surface.now c.loop-event.surface c.args.tick c.loop-event.last c.args.events.now c.loop-event.event-index _ t c.loop-event-test.true) c.products.ensures

pub apply-requires-clause-species : goal.apply-requires-clause-species
apply-requires-clause-species c = of_species c.args.plan.now c.loop-event.surface _ c.products.result c.loop-event.invariant.goes_on c.products.ensures

pub apply-requires-clause-room : goal.apply-requires-clause-room
apply-requires-clause-room c =
    let t = c.loop-event.invariant in
    with_room c.args.plan.now t.until c.loop-event.surface _ t.goes_on (applying_due c.args.plan.now c.args.surface.now c.loop-event.surface c.args.tick c.loop-event.last c.args.events.now c.loop-event.event-index _ t c.loop-event-test.true)

pub loop-event-preserved : goal.loop-event-preserved
loop-event-preserved c =
    applying_step c.args.plan.now c.args.surface.now c.loop-event.surface c.apply.new.self c.args.tick c.loop-event.last c.args.events.now c.loop-event.event-index _ c.products.result c.loop-event.invariant c.loop-event-test.true c.products.ensures c.apply.ensures.surface

pub returns-clause-same : goal.returns-clause-same
returns-clause-same c =
    applying_same c.args.plan.now c.args.surface.now c.loop-event.surface c.args.tick c.loop-event.last c.args.events.now c.loop-event.event-index c.loop-event.invariant (omega (arith, c.loop-event-test.false))

pub returns-clause-last : goal.returns-clause-last
returns-clause-last c =
    applying_last c.args.plan.now c.args.surface.now c.loop-event.surface c.args.tick c.loop-event.last c.args.events.now c.loop-event.event-index c.loop-event.invariant (omega (arith, c.loop-event-test.false))
