use Rattle.std.proofs.Common.{◌≡◌, ℕ, ◌+◌, List, sym, ap, ◌∙◌, subst, arith}
use Rattle.regions.specs.Bands.{Bands}
use Rattle.surf_kinds.specs.declared.event.Key.{Key}
use Rattle.surf_kinds.specs.Keys.{is_before, ◌is_upto◌}
use Rattle.std.specs.declared.option.Option.{Option}
use Rattle.timeline.specs.declared.entry.Entry.{Entry}
use Rattle.timeline.specs.TimelineView.{events_of}
use Rattle.warp_core.specs.Grounds.{ArePlaces}
use Rattle.region_run.specs.Sides.{SideView, Gained, back_of, first_told_of, lesser_key}
use Rattle.region_run.proofs.Absorbs.{region_places, cut_late, cut_early}
use Rattle.region_run.proofs.Spares.{uses_one, less}
use Rattle.region_run.proofs.region.Region.cut_back.Goals as goal

pub first_told-to_first-requires-clause-places : goal.first_told-to_first-requires-clause-places
first_told-to_first-requires-clause-places c =
    let w = c.requires.region in
    subst (ArePlaces c.args.cut.now.lattice) (sym c.entries-entries.ensures.entries) (region_places c.args.plan.now c.args.cut.now w.0 w.1 c.args.self.now w.2)

pub first_told-to_second-requires-clause-places : goal.first_told-to_second-requires-clause-places
first_told-to_second-requires-clause-places c =
    let w = c.requires.region in
    subst (ArePlaces c.args.cut.now.lattice) (sym c.entries-entries.ensures.entries) (region_places c.args.plan.now c.args.cut.now w.0 w.1 c.args.self.now w.2)

pub take_back-requires : goal.take_back-requires
take_back-requires c = c.requires.spare.first

pub take_back-requires-2 : goal.take_back-requires-2
take_back-requires-2 c = c.requires.spare.second

pub back_to-requires-clause-board : goal.back_to-requires-clause-board
back_to-requires-clause-board c =
    let w = c.requires.region in
    (c.args.plan.now, w.1.cells, w.1.past, w.1.surface, w.1.floor, w.2.board, subst (λ k. w.1.floor is_upto k) (sym c.key-key.ensures) w.3)

-- what was found in the entries
found : (b : Bands) (id : ℕ) (side first second : Option SideView) (key : Key) (es fs : List Entry) (told one other least : Option Key) (t : Option SideView)
    → es ≡ fs → told ≡ first_told_of b id side key (events_of es) → one ≡ first_told_of b id first key (events_of es) → other ≡ first_told_of b id second key (events_of es) → least ≡ lesser_key one other → Gained side (λ l. back_of told least) t
    → Gained side (λ l. back_of (first_told_of b id side key (events_of fs)) (lesser_key (first_told_of b id first key (events_of fs)) (first_told_of b id second key (events_of fs)))) t
found b id side first second key es fs told one other least t same a y z w g =
    let at : (s : Option SideView) → first_told_of b id s key (events_of es) ≡ first_told_of b id s key (events_of fs) = λ s. ap (λ xs. first_told_of b id s key (events_of xs)) same in
    let both : least ≡ lesser_key (first_told_of b id first key (events_of fs)) (first_told_of b id second key (events_of fs)) =
    w ∙ (ap (λ k. lesser_key k other) (y ∙ at first) ∙ ap (lesser_key (first_told_of b id first key (events_of fs))) (z ∙ at second)) in
    subst (λ (k : Option Key). Gained side (λ l. back_of k (lesser_key (first_told_of b id first key (events_of fs)) (first_told_of b id second key (events_of fs)))) t) (a ∙ at side)
    (subst (λ (k : Option Key). Gained side (λ l. back_of told k) t) both g)

pub returns-then-not-is_before-clause-back : goal.returns-then-not-is_before-clause-back
returns-then-not-is_before-clause-back c until x g low =
    cut_late c.args.plan.now c.args.cut.now until x c.args.op c.args.self.now g
    (ap (λ k. is_before k c.args.self.now.clock) (sym c.key-key.ensures) ∙ (sym c.is_before.ensures ∙ c.if-not-is_before.true))

pub returns-then-not-is_before-clause-spare : goal.returns-then-not-is_before-clause-spare
returns-then-not-is_before-clause-spare c m h = less (m + 1) m c.args.self.now (omega arith) h

pub returns-clause-back : goal.returns-clause-back
returns-clause-back c until x g low =
    let r = c.args.self.now in
    cut_early c.args.plan.now c.args.cut.now until x c.args.op r c.key-key.result c.back_to.new.self c.take_back.new.side c.take_back-2.new.side g
    c.key-key.ensures (sym c.is_before.ensures ∙ c.if-not-is_before.false) c.back_to.ensures.entries c.back_to.ensures.range c.back_to.ensures.undoable
    (c.back_to.ensures.board c.args.plan.now x.cells x.past x.surface x.floor g.board (subst (λ k. x.floor is_upto k) (sym c.key-key.ensures) low))
    (found c.args.cut.now r.id r.first r.first r.second c.key-key.result c.entries-entries.result.now r.board.timeline.entries c.first_told-to_first.result c.first_told-to_first.result c.first_told-to_second.result c.lesser-least.result c.take_back.new.side c.entries-entries.ensures.entries c.first_told-to_first.ensures c.first_told-to_first.ensures c.first_told-to_second.ensures c.lesser-least.ensures c.take_back.ensures)
    (found c.args.cut.now r.id r.second r.first r.second c.key-key.result c.entries-entries.result.now r.board.timeline.entries c.first_told-to_second.result c.first_told-to_first.result c.first_told-to_second.result c.lesser-least.result c.take_back-2.new.side c.entries-entries.ensures.entries c.first_told-to_second.ensures c.first_told-to_first.ensures c.first_told-to_second.ensures c.lesser-least.ensures c.take_back-2.ensures)

pub returns-clause-spare : goal.returns-clause-spare
returns-clause-spare c =
    uses_one c.args.self.now _ _ _ (omega (arith, c.back_to.ensures.spare)) c.back_to.ensures.undoable (omega (arith, c.back_to.ensures.len)) c.back_to.ensures.capacity (omega arith) c.take_back.ensures c.take_back-2.ensures
