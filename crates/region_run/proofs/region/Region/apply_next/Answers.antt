use Rattle.std.proofs.Common.{◌==◌, ap, ◌∙◌, arith, subst}
use Rattle.surf_kinds.specs.declared.event.Key.{Key}
use Rattle.surf_kinds.specs.Keys.{key_after}
use Rattle.region_run.specs.Sides.{Gained, event_puts}
use Rattle.region_run.proofs.Applies.{known, place_is, place_small, steps}
use Rattle.region_run.proofs.Spares.{uses_one}
use Rattle.region_run.proofs.region.Region.apply_next.Goals as goal

pub owner-requires : goal.owner-requires
owner-requires c = let w = c.requires.next in place_is c.args.plan.now c.args.cut.now c.args.until w.0 c.args.self.now c.args.event w.1 w.2

pub apply-requires-clause-board : goal.apply-requires-clause-board
apply-requires-clause-board c =
    let w = c.requires.next in
    (w.0.cells, w.0.past, w.0.surface, w.0.floor, w.1.board, (known c.args.plan.now c.args.cut.now c.args.until w.0 c.args.self.now c.args.event w.1 w.2).below)

pub apply-requires-clause-fits : goal.apply-requires-clause-fits
apply-requires-clause-fits c = let w = c.requires.next in (known c.args.plan.now c.args.cut.now c.args.until w.0 c.args.self.now c.args.event w.1 w.2).fits

pub apply-requires-clause-timely : goal.apply-requires-clause-timely
apply-requires-clause-timely c = let w = c.requires.next in (known c.args.plan.now c.args.cut.now c.args.until w.0 c.args.self.now c.args.event w.1 w.2).timely

pub apply-requires-clause-spare : goal.apply-requires-clause-spare
apply-requires-clause-spare c = c.requires.spare.timeline

pub apply-requires-clause-room : goal.apply-requires-clause-room
apply-requires-clause-room c u = c.requires.spare.changes u

pub after-self-requires : goal.after-self-requires
after-self-requires c =
    let w = c.requires.next in
    let small = place_small c.args.plan.now c.args.cut.now c.args.until w.0 c.args.self.now c.args.event w.1 w.2 in
    omega (arith, small, ap (λ (k : Key). k.place.0) c.key.ensures)

pub tell-requires-clause-place : goal.tell-requires-clause-place
tell-requires-clause-place c = let w = c.requires.next in place_is c.args.plan.now c.args.cut.now c.args.until w.0 c.args.self.now c.args.event w.1 w.2

pub tell-requires-clause-room : goal.tell-requires-clause-room
tell-requires-clause-room c = c.requires.spare.first

pub tell-requires-2-clause-place : goal.tell-requires-2-clause-place
tell-requires-2-clause-place c = let w = c.requires.next in place_is c.args.plan.now c.args.cut.now c.args.until w.0 c.args.self.now c.args.event w.1 w.2

pub tell-requires-2-clause-room : goal.tell-requires-2-clause-room
tell-requires-2-clause-room c = c.requires.spare.second

pub returns-clause-steps : goal.returns-clause-steps
returns-clause-steps c x g h =
    let r = c.args.self.now in
    let k = known c.args.plan.now c.args.cut.now c.args.until x r c.args.event g h in
    let e = c.apply.ensures.entry in
    steps c.args.plan.now c.args.cut.now c.args.until x r c.args.event g h c.apply.new.self c.after-self.result c.tell.new.side c.tell-2.new.side e.0 e.1 e.2 (e.3 ∙ ap (λ m. m == r.id) c.owner.ensures.owner)
    (c.apply.ensures.board x.cells x.past x.surface x.floor g.board k.below) c.apply.ensures.range c.apply.ensures.undoable
    (c.after-self.ensures.key ∙ ap key_after c.key.ensures)
    (subst (λ o. Gained r.first (event_puts c.args.cut.now o c.args.event) c.tell.new.side) (ap (λ m. m == r.id) c.owner.ensures.owner) c.tell.ensures)
    (subst (λ o. Gained r.second (event_puts c.args.cut.now o c.args.event) c.tell-2.new.side) (ap (λ m. m == r.id) c.owner.ensures.owner) c.tell-2.ensures)

pub returns-clause-first : goal.returns-clause-first
returns-clause-first c =
    subst (λ o. Gained c.args.self.now.first (event_puts c.args.cut.now o c.args.event) c.tell.new.side) (ap (λ m. m == c.args.self.now.id) c.owner.ensures.owner) c.tell.ensures

pub returns-clause-second : goal.returns-clause-second
returns-clause-second c =
    subst (λ o. Gained c.args.self.now.second (event_puts c.args.cut.now o c.args.event) c.tell-2.new.side) (ap (λ m. m == c.args.self.now.id) c.owner.ensures.owner) c.tell-2.ensures

pub returns-clause-spare : goal.returns-clause-spare
returns-clause-spare c =
    uses_one c.args.self.now _ _ _ (omega (arith, c.apply.ensures.spare)) c.apply.ensures.undoable c.apply.ensures.len c.apply.ensures.capacity (omega arith) c.tell.ensures c.tell-2.ensures
