use Rattle.std.proofs.Common.{◌∷◌, sym, ap, ◌∙◌, subst, arith}
use Rattle.lattice.specs.Shape.{Shape}
use Rattle.lattice.specs.Surface.{HasRoom}
use Rattle.plan.specs.History.{due}
use Rattle.surface_state.specs.SurfaceView.{SurfaceView}
use Rattle.one_engine.specs.State.{State, fired, history_from}
use Rattle.next_events.proofs.LawLemmas.{covers_all}
use Rattle.one_engine.proofs.Settled.{settled_within, leaves_products}
use Rattle.one_engine.proofs.Firings.{history_of_none, history_of_some}
use Rattle.one_engine.proofs.Fires.{fires_due, late_due, none_due, can_fire_least, fits_pair, same_after, the_state, settled_still, runs_on}
use Rattle.one_engine.proofs.engine.Engine.fire.Goals as goal

pub products-products-requires : goal.products-products-requires
products-products-requires c =
    let i = c.self.inside in
    (can_fire_least i.plan i.surface i.queue c.args.until c.in-Some.event c.self.invariant c.in-Some.ensures.least (omega (arith, c.if-event-until.true))).channel

pub apply-requires-clause-pair : goal.apply-requires-clause-pair
apply-requires-clause-pair c =
    let i = c.self.inside in
    fits_pair i.plan i.surface i.queue c.args.until c.in-Some.event c.products-products.result c.self.invariant c.in-Some.ensures.least (omega (arith, c.if-event-until.true)) c.products-products.ensures

pub apply-requires-clause-species : goal.apply-requires-clause-species
apply-requires-clause-species c =
    let i = c.self.inside in
    leaves_products i.surface.species_count i.plan.rules c.in-Some.event.channel c.products-products.result c.self.invariant.species c.products-products.ensures

pub apply-requires-clause-room : goal.apply-requires-clause-room
apply-requires-clause-room c =
    let i = c.self.inside in
    subst (λ (l : Shape). HasRoom l i.surface.sites c.in-Some.event.place.0) (sym c.self.invariant.lattice)
    (can_fire_least i.plan i.surface i.queue c.args.until c.in-Some.event c.self.invariant c.in-Some.ensures.least (omega (arith, c.if-event-until.true))).has_room

pub refresh-requires-clause-bounds : goal.refresh-requires-clause-bounds
refresh-requires-clause-bounds c =
    let i = c.self.inside in
    settled_within c.apply.new.self.sites
    (settled_still i.plan i.surface c.apply.new.self i.queue c.args.until c.in-Some.event c.self.invariant c.in-Some.ensures.least (omega (arith, c.if-event-until.true)) c.requires
    (same_after i.plan i.surface c.apply.new.self c.in-Some.event c.products-products.result c.self.invariant.lattice c.products-products.ensures c.apply.ensures.surface))

pub refresh-requires-clause-covers : goal.refresh-requires-clause-covers
refresh-requires-clause-covers c = covers_all c.self.inside.plan.lattice c.self.inside.queue c.self.invariant.covers

pub invariant_of-self : goal.invariant_of-self
invariant_of-self c =
    let i = c.self.inside in
    runs_on i.plan i.surface c.apply.new.self i.queue c.refresh.new.queue c.args.until c.in-Some.event c.self.invariant c.in-Some.ensures.least (omega (arith, c.if-event-until.true)) c.requires
    (same_after i.plan i.surface c.apply.new.self c.in-Some.event c.products-products.result c.self.invariant.lattice c.products-products.ensures c.apply.ensures.surface)
    c.refresh.ensures

pub returns-in-Some-clause-due : goal.returns-in-Some-clause-due
returns-in-Some-clause-due c =
    let i = c.self.inside in
    sym (fires_due i.plan i.surface i.queue c.args.until c.in-Some.event c.self.invariant c.in-Some.ensures.least (omega (arith, c.if-event-until.true)))
    ∙ ap (λ (v : State). due v.network c.args.until v.surface.sites) c.self.view_is

pub returns-in_default-clause-due : goal.returns-in_default-clause-due
returns-in_default-clause-due c =
    let i = c.self.inside in
    sym (late_due i.plan i.surface i.queue c.args.until c.in-Some.event c.self.invariant c.in-Some.ensures.least (omega (arith, c.if-event-until.false)))
    ∙ ap (λ (v : State). due v.network c.args.until v.surface.sites) c.self.view_is

pub returns-in_default-2-clause-due : goal.returns-in_default-2-clause-due
returns-in_default-2-clause-due c =
    let i = c.self.inside in
    sym (none_due i.plan i.surface i.queue c.args.until c.self.invariant c.in_default.ensures.least)
    ∙ ap (λ (v : State). due v.network c.args.until v.surface.sites) c.self.view_is

pub returns-in-Some-clause-state : goal.returns-in-Some-clause-state
returns-in-Some-clause-state c =
    let i = c.self.inside in
    ap (λ (x : SurfaceView). the_state i.plan x)
    (same_after i.plan i.surface c.apply.new.self c.in-Some.event c.products-products.result c.self.invariant.lattice c.products-products.ensures c.apply.ensures.surface)
    ∙ ap (λ (v : State). fired v c.in-Some.event) c.self.view_is

pub returns-in-Some-clause-history : goal.returns-in-Some-clause-history
returns-in-Some-clause-history c =
    history_of_some c.args.until c.args.self.now c.in-Some.event (sym (returns-in-Some-clause-due c))
    ∙ ap (λ (s : State). c.in-Some.event ∷ history_from c.args.until s) (sym (returns-in-Some-clause-state c))

pub returns-in_default-clause-history : goal.returns-in_default-clause-history
returns-in_default-clause-history c = history_of_none c.args.until c.args.self.now (sym (returns-in_default-clause-due c))

pub returns-in_default-2-clause-history : goal.returns-in_default-2-clause-history
returns-in_default-2-clause-history c = history_of_none c.args.until c.args.self.now (sym (returns-in_default-2-clause-due c))
