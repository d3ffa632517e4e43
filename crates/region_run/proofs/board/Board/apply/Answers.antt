use Rattle.std.proofs.Common.{◌++◌, ◌∷◌, [], refl, sym, ap, ◌∙◌, subst}
use Rattle.surf_kinds.specs.Keys.{key_of}
use Rattle.lattice.specs.Shape.{Shape}
use Rattle.lattice.specs.Places.{IsPlace}
use Rattle.plan.specs.Sharing.{ShareSite}
use Rattle.region_run.specs.Boards.{AreNoted}
use Rattle.surface_state.specs.Changes.{IsSecondOf}
use Rattle.surface_state.specs.SurfaceView.{SurfaceView}
use Rattle.timeline.specs.declared.entry.Entry.{Entry}
use Rattle.plan.proofs.LawLemmas.{fits_is_place, fits_is_channel, fits_products}
use Rattle.next_events.proofs.LawLemmas.{covers_range}
use Rattle.warp_core.proofs.LawLemmas.{products_below, ground_lattice, ground_species, ground_room, ground_bounds, step_by, push_ground, is_later}
use Rattle.region_run.proofs.Boarding.{board_applied}
use Rattle.region_run.proofs.board.Board.apply.Goals as goal

pub note_if-requires-clause-covers : goal.note_if-requires-clause-covers
note_if-requires-clause-covers c = c.requires.board.4.covers

pub products-products-requires : goal.products-products-requires
products-products-requires c = fits_is_channel c.args.plan.now c.args.event.place.0 c.args.event.channel c.requires.fits

pub apply-before-requires-clause-place : goal.apply-before-requires-clause-place
apply-before-requires-clause-place c =
    let n = c.args.plan.now in
    let r = c.args.self.now in
    let w = c.requires.board in
    subst (λ l. IsPlace l c.args.event.place.0) (sym (ground_lattice n w.0 w.1 w.2 r.timeline.entries r.surface w.4.ground))
    (fits_is_place n c.args.event.place.0 c.args.event.channel c.requires.fits)

pub apply-before-requires-clause-pair : goal.apply-before-requires-clause-pair
apply-before-requires-clause-pair c =
    let n = c.args.plan.now in
    let r = c.args.self.now in
    let w = c.requires.board in
    subst (λ l. IsSecondOf l c.args.event.place.0 c.products-products.result.1) (sym (ground_lattice n w.0 w.1 w.2 r.timeline.entries r.surface w.4.ground))
    (fits_products n c.args.event.place.0 c.args.event.channel c.products-products.result c.requires.fits c.products-products.ensures)

pub apply-before-requires-clause-species : goal.apply-before-requires-clause-species
apply-before-requires-clause-species c =
    let n = c.args.plan.now in
    let r = c.args.self.now in
    let w = c.requires.board in
    products_below r.surface.species_count n.rules c.args.event.channel c.products-products.result (ground_species n w.0 w.1 w.2 r.timeline.entries r.surface w.4.ground) c.products-products.ensures

pub apply-before-requires-clause-room : goal.apply-before-requires-clause-room
apply-before-requires-clause-room c =
    let n = c.args.plan.now in
    let r = c.args.self.now in
    let w = c.requires.board in
    ground_room n w.0 w.1 w.2 r.timeline.entries r.surface w.4.ground c.args.event.place.0

pub push-requires-clause-later : goal.push-requires-clause-later
push-requires-clause-later c =
    let r = c.args.self.now in
    let w = c.requires.board in
    is_later w.1 r.timeline.entries c.args.event (record { before = c.apply-before.result; own = c.args.own }) c.apply-before.ensures.event w.5

pub refresh-requires-clause-lattice : goal.refresh-requires-clause-lattice
refresh-requires-clause-lattice c =
    let n = c.args.plan.now in
    let r = c.args.self.now in
    let w = c.requires.board in
    ap (λ (y : SurfaceView). y.lattice) c.apply-before.ensures.surface ∙ ground_lattice n w.0 w.1 w.2 r.timeline.entries r.surface w.4.ground

pub refresh-requires-clause-bounds : goal.refresh-requires-clause-bounds
refresh-requires-clause-bounds c =
    let n = c.args.plan.now in
    let r = c.args.self.now in
    let w = c.requires.board in
    let entry : Entry = record { before = c.apply-before.result; own = c.args.own } in
    let step = step_by n w.0 w.1 w.2 r.timeline.entries r.surface w.4.ground c.args.event entry c.products-products.result c.apply-before.new.self c.products-products.ensures c.apply-before.ensures.event c.apply-before.ensures.surface c.apply-before.ensures.stood c.apply-before.ensures.below in
    let g = push_ground n w.0 w.1 w.2 r.timeline.entries r.surface w.4.ground c.args.event entry c.apply-before.new.self w.5 c.requires.timely c.apply-before.ensures.event step in
    ground_bounds n w.0 w.1 w.2 (r.timeline.entries ++ entry ∷ []) c.apply-before.new.self g

pub refresh-requires-clause-covers : goal.refresh-requires-clause-covers
refresh-requires-clause-covers c = covers_range c.args.plan.now.lattice c.args.self.now.range c.args.self.now.queue c.requires.board.4.covers

pub returns-clause-entry : goal.returns-clause-entry
returns-clause-entry c = (record { before = c.apply-before.result; own = c.args.own }, c.push.ensures.entries, c.apply-before.ensures.event, refl)

pub returns-clause-board : goal.returns-clause-board
returns-clause-board c cells past base floor board all =
    let n = c.args.plan.now in
    let r = c.args.self.now in
    let entry : Entry = record { before = c.apply-before.result; own = c.args.own } in
    let step = step_by n cells past base r.timeline.entries r.surface board.ground c.args.event entry c.products-products.result c.apply-before.new.self c.products-products.ensures c.apply-before.ensures.event c.apply-before.ensures.surface c.apply-before.ensures.stood c.apply-before.ensures.below in
    let g = push_ground n cells past base r.timeline.entries r.surface board.ground c.args.event entry c.apply-before.new.self all c.requires.timely c.apply-before.ensures.event step in
    board_applied n cells past base floor r (record r { surface = c.apply-before.new.self; timeline = c.push.new.self; queue = c.refresh.new.queue; changes = c.note_if.new.changes }) c.args.event entry board all c.apply-before.ensures.event c.push.ensures.entries step g refl refl
    (λ u. subst (λ (l : Shape). AreNoted (key_of c.args.event) r.range r.queue (ShareSite l c.args.event.place.0) r.changes.items c.note_if.new.changes.items) c.lattice.ensures (c.note_if.ensures.noted u)) c.refresh.ensures
