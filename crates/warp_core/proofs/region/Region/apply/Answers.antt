use Rattle.std.proofs.Common.{◌≡◌, ◌++◌, ◌∷◌, [], sym, ap, ◌∙◌, subst}
use Rattle.lattice.specs.Places.{IsPlace}
use Rattle.surface_state.specs.Changes.{IsSecondOf}
use Rattle.timeline.specs.TimelineView.{events_of}
use Rattle.timeline.specs.declared.entry.Entry.{Entry}
use Rattle.border.specs.Stacked.{stack_of}
use Rattle.surf_kinds.specs.Keys.{key_of, key_after}
use Rattle.warp_core.specs.Grounds.{IsGround}
use Rattle.plan.proofs.LawLemmas.{fits_is_place, fits_is_channel, fits_products}
use Rattle.warp_core.proofs.Machine.Fitting.{products_below}
use Rattle.warp_core.proofs.Machine.Ground.{ground_lattice, ground_species, ground_room, step_by, push_ground, is_later}
use Rattle.warp_core.proofs.Machine.Runs.{events-append}
use Rattle.warp_core.proofs.region.Region.apply.Goals as goal

pub products-products-requires : goal.products-products-requires
products-products-requires c = fits_is_channel c.args.plan.now c.args.event.place.0 c.args.event.channel c.requires.fits

pub apply-before-requires-clause-place : goal.apply-before-requires-clause-place
apply-before-requires-clause-place c =
    let n = c.args.plan.now in
    let r = c.args.self.now in
    let w = c.requires.ground in
    subst (λ l. IsPlace l c.args.event.place.0) (sym (ground_lattice n w.0 w.1 w.2 r.timeline.entries r.surface w.3))
    (fits_is_place n c.args.event.place.0 c.args.event.channel c.requires.fits)

pub apply-before-requires-clause-pair : goal.apply-before-requires-clause-pair
apply-before-requires-clause-pair c =
    let n = c.args.plan.now in
    let r = c.args.self.now in
    let w = c.requires.ground in
    subst (λ l. IsSecondOf l c.args.event.place.0 c.products-products.result.1) (sym (ground_lattice n w.0 w.1 w.2 r.timeline.entries r.surface w.3))
    (fits_products n c.args.event.place.0 c.args.event.channel c.products-products.result c.requires.fits c.products-products.ensures)

pub apply-before-requires-clause-species : goal.apply-before-requires-clause-species
apply-before-requires-clause-species c =
    let n = c.args.plan.now in
    let r = c.args.self.now in
    let w = c.requires.ground in
    products_below r.surface.species_count n.rules c.args.event.channel c.products-products.result (ground_species n w.0 w.1 w.2 r.timeline.entries r.surface w.3) c.products-products.ensures

pub apply-before-requires-clause-room : goal.apply-before-requires-clause-room
apply-before-requires-clause-room c =
    let n = c.args.plan.now in
    let r = c.args.self.now in
    let w = c.requires.ground in
    ground_room n w.0 w.1 w.2 r.timeline.entries r.surface w.3 c.args.event.place.0

pub push-requires-clause-later : goal.push-requires-clause-later
push-requires-clause-later c =
    let r = c.args.self.now in
    let w = c.requires.ground in
    is_later w.1 r.timeline.entries c.args.event (record { before = c.apply-before.result; own = c.args.own }) c.apply-before.ensures.event w.4

pub returns-clause-part : goal.returns-clause-part
returns-clause-part c =
    let r = c.args.self.now in
    let entry : Entry = record { before = c.apply-before.result; own = c.args.own } in
    let events : events_of c.push.new.self.entries ≡ events_of r.timeline.entries ++ c.args.event ∷ [] =
    ap events_of c.push.ensures.entries ∙ (events-append r.timeline.entries (entry ∷ []) ∙ ap (λ x. events_of r.timeline.entries ++ x ∷ []) c.apply-before.ensures.event) in
    let clock : c.after-self.result ≡ key_after (key_of c.args.event) = c.after-self.ensures.key ∙ ap key_after c.key.ensures in
    λ i. record { timeline = events i; clock = clock i; stack = stack_of r.stacks }

pub returns-clause-ground : goal.returns-clause-ground
returns-clause-ground c cells past base ground all =
    let n = c.args.plan.now in
    let r = c.args.self.now in
    let entry : Entry = record { before = c.apply-before.result; own = c.args.own } in
    let step = step_by n cells past base r.timeline.entries r.surface ground c.args.event entry c.products-products.result c.apply-before.new.self c.products-products.ensures c.apply-before.ensures.event c.apply-before.ensures.surface c.apply-before.ensures.stood c.apply-before.ensures.below in
    subst (λ es. IsGround n cells past base es c.apply-before.new.self) (sym c.push.ensures.entries)
    (push_ground n cells past base r.timeline.entries r.surface ground c.args.event entry c.apply-before.new.self all c.requires.timely c.apply-before.ensures.event step)
