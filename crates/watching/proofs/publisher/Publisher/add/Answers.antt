use Rattle.std.proofs.Common.{◌≡◌, List, length, ap, ◌∙◌, arith}
use Rattle.std.specs.Vec.{with_items}
use Rattle.std.proofs.lemmas.List.{with_items_is}
use Rattle.surf_kinds.specs.declared.site.SpeciesId.{SpeciesId}
use Rattle.lattice.specs.Surface.{after_all}
use Rattle.watching.proofs.Publishing.{fits, cells_long, room, may_follow, added_more, on_ok}
use Rattle.watching.proofs.publisher.Publisher.add.Goals as goal

pub happen-change-requires-clause-fits : goal.happen-change-requires-clause-fits
happen-change-requires-clause-fits c = let n = c.requires.next in fits c.args.plan.now n.0 n.1 n.2 c.args.self.now n.3 c.args.event n.4

pub happen-change-requires-clause-long : goal.happen-change-requires-clause-long
happen-change-requires-clause-long c = let n = c.requires.next in ap (λ (l : List SpeciesId). length l) c.deref_mut.ensures.value ∙ cells_long c.args.plan.now n.0 n.1 n.2 c.args.self.now n.3 c.args.event n.4

pub add-requires-clause-room : goal.add-requires-clause-room
add-requires-clause-room c = let n = c.requires.next in room c.args.plan.now n.0 n.1 n.2 c.args.self.now n.3 c.args.event n.4 n.5

pub add-requires-clause-follows : goal.add-requires-clause-follows
add-requires-clause-follows c =
    let n = c.requires.next in
    may_follow c.args.plan.now n.0 n.1 n.2 c.args.self.now n.3 c.args.event n.4 c.happen-change.result
    (c.happen-change.ensures.change (after_all c.args.plan.now.lattice c.args.plan.now.rules n.1 n.2) (c.deref_mut.ensures.value ∙ n.3.cells))

pub returns-clause-added : goal.returns-clause-added
returns-clause-added c =
    on_ok c.add.result
    (λ is until first es has next.
    let sites = after_all c.args.plan.now.lattice c.args.plan.now.rules first es in
    let items : (with_items c.args.self.now.cells c.happen-change.new.cells).items ≡ c.happen-change.new.cells = with_items_is c.args.self.now.cells c.happen-change.new.cells (omega (arith, c.happen-change.auto.cells, c.deref_mut.ensures.len)) in
    added_more c.args.plan.now until first es c.args.self.now has c.args.event next (record { writer = c.add.new.self; cells = with_items c.args.self.now.cells c.happen-change.new.cells }) c.happen-change.result (items ∙ c.happen-change.ensures.cells sites (c.deref_mut.ensures.value ∙ has.cells)) (c.happen-change.ensures.change sites (c.deref_mut.ensures.value ∙ has.cells)) is)
    c.add.ensures.ok
