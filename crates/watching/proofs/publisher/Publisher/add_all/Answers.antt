use Rattle.std.proofs.Common.{◌≡◌, ◌+◌, ◌++◌, ◌∷◌, [], List, take, get_or, sym, ap, ◌∙◌, subst, append_assoc}
use Rattle.std.proofs.lemmas.List.{take_more}
use Rattle.surf_kinds.specs.declared.event.Event.{Event}
use Rattle.watching.specs.Published.{HasAdded}
use Rattle.watching.proofs.Publishing.{next_taken, taken_few}
use Rattle.watching.proofs.publisher.Publisher.add_all.Goals as goal

pub add-requires : goal.add-requires
add-requires c =
    let n = c.requires.next in
    let i = c.loop-event.event-index in
    let e : Event = get_or c.args.events.now i (record { time = 0; place = record { 0 = 0 }; channel = 0 }) in
    record {
      next = (
        n.0,
        n.1,
        n.2 ++ take i c.args.events.now,
        c.loop-event.invariant.added n.0 n.1 n.2 n.3 n.4,
        next_taken c.args.plan.now n.0 n.1 n.2 c.args.events.now i e (take_more c.args.events.now i (record { time = 0; place = record { 0 = 0 }; channel = 0 }) c.loop-event-test.true) n.4,
        taken_few n.2 c.args.events.now i c.loop-event-test.true n.5,
      );
    }

pub loop-event-preserved : goal.loop-event-preserved
loop-event-preserved c = record {
  name = c.add.ensures.name ∙ c.loop-event.invariant.name;
  added = λ until first es has next.
      let i = c.loop-event.event-index in
      let d : Event = record { time = 0; place = record { 0 = 0 }; channel = 0 } in
      let more : take (i + 1) c.args.events.now ≡ take i c.args.events.now ++ get_or c.args.events.now i d ∷ [] = take_more c.args.events.now i d c.loop-event-test.true in
      subst (λ (l : List Event). HasAdded c.args.plan.now first l c.add.new.self) (append_assoc es (take i c.args.events.now) (get_or c.args.events.now i d ∷ []) ∙ ap (λ l. es ++ l) (sym more))
      (c.in_ok-add.ensures.added until first (es ++ take i c.args.events.now) (c.loop-event.invariant.added until first es has next) (next_taken c.args.plan.now until first es c.args.events.now i (get_or c.args.events.now i d) more next));
}
