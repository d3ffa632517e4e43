use Rattle.std.proofs.Common.{◌≡◌, ◌++◌, ◌∷◌, [], true, List, length, refl, sym, ap, ◌∙◌, subst, arith, length-append}
use Rattle.std.specs.Prelude.{IfSome}
use Rattle.surf_kinds.specs.Keys.{◌is_below◌}
use Rattle.lattice.specs.Ranges.{is_in_range}
use Rattle.region_run.specs.declared.changes.Change.{Change}
use Rattle.region_run.specs.Boards.{AllChanges, AreInOrder, ArePutBack}
use Rattle.region_run.proofs.Trail.{has_place, none_back, more_back, each_left, each_right, order_left}
use Rattle.region_run.proofs.changes.put_back.Goals as goal

pub loop-change-init : goal.loop-change-init
loop-change-init c =
    record { back = none_back c.args.key c.args.range c.args.changes.now.items c.args.queue.now c.requires.covers; order = c.requires.order; inside = c.requires.inside; len = omega arith; capacity = refl }

-- the last of some changes
last_of : (P : Change → Type 0) (cs less : List Change) (c : Change) → cs ≡ less ++ c ∷ [] → AllChanges P cs → P c
last_of P cs less c is all = (each_right P less (c ∷ []) (subst (AllChanges P) is all)).0

pub set-requires-clause-place : goal.set-requires-clause-place
set-requires-clause-place c =
    let inv = c.loop-change.invariant in
    has_place c.args.range c.loop-change.queue c.in-Some.change.place.0 inv.back.covers
    (last_of (λ d. (is_in_range c.args.range d.place.0 ≡ true) × IfSome d.was (λ e. e.place ≡ d.place)) c.loop-change.changes.items c.pop_from.new.changes.items c.in-Some.change c.in-Some.ensures.last inv.inside).0

pub set-requires-clause-event : goal.set-requires-clause-event
set-requires-clause-event c =
    (last_of (λ d. (is_in_range c.args.range d.place.0 ≡ true) × IfSome d.was (λ e. e.place ≡ d.place)) c.loop-change.changes.items c.pop_from.new.changes.items c.in-Some.change c.in-Some.ensures.last c.loop-change.invariant.inside).1

pub loop-change-preserved : goal.loop-change-preserved
loop-change-preserved c =
    let inv = c.loop-change.invariant in
    let inside = last_of (λ d. (is_in_range c.args.range d.place.0 ≡ true) × IfSome d.was (λ e. e.place ≡ d.place)) c.loop-change.changes.items c.pop_from.new.changes.items c.in-Some.change c.in-Some.ensures.last inv.inside in
    record {
      back = more_back c.args.key c.args.range c.args.changes.now.items c.loop-change.changes.items c.args.queue.now c.loop-change.queue inv.back c.in-Some.change c.pop_from.new.changes.items c.in-Some.ensures.last c.in-Some.ensures.from inside.0 c.set.new.self c.set.ensures;
      order = order_left c.pop_from.new.changes.items (c.in-Some.change ∷ []) (subst AreInOrder c.in-Some.ensures.last inv.order);
      inside = each_left (λ d. (is_in_range c.args.range d.place.0 ≡ true) × IfSome d.was (λ e. e.place ≡ d.place)) c.pop_from.new.changes.items (c.in-Some.change ∷ []) (subst (AllChanges (λ d. (is_in_range c.args.range d.place.0 ≡ true) × IfSome d.was (λ e. e.place ≡ d.place))) c.in-Some.ensures.last inv.inside);
      len = omega (arith, c.in-Some.ensures.len, inv.len);
      capacity = c.in-Some.ensures.capacity ∙ inv.capacity;
    }

pub loop-change-smaller : goal.loop-change-smaller
loop-change-smaller c = omega (arith, ap length c.in-Some.ensures.last, length-append c.pop_from.new.changes.items (c.in-Some.change ∷ []))

pub returns-clause-back : goal.returns-clause-back
returns-clause-back c =
    subst (λ cs. ArePutBack c.args.key c.args.range c.args.changes.now.items cs c.args.queue.now c.loop-change.queue) (sym c.in_default.ensures.same) c.loop-change.invariant.back

pub returns-clause-early : goal.returns-clause-early
returns-clause-early c = subst (AllChanges (λ d. d.at is_below c.args.key)) (sym c.in_default.ensures.same) (c.in_default.ensures.below c.loop-change.invariant.order)
