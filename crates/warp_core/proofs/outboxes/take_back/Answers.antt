use Rattle.std.proofs.Common.{◌≡◌, ◌++◌, ◌∷◌, [], ◌<◌, ◌∙◌, ap, arith, sym, subst, vec_len, vec_capacity}
use Rattle.std.proofs.lemmas.Grind.{common_steps}
use Rattle.border.specs.declared.op.Op.TheVariants.{Back}
use Rattle.regions.proofs.LawLemmas.{told_below}
use Rattle.timeline.specs.TimelineView.{events_of}
use Rattle.warp_core.specs.Backs.{back_puts, back_at, first_from, is_told_own}
use Rattle.warp_core.proofs.Machine.Vectors.{putting_done, putting_skip, putting_push}
use Rattle.warp_core.proofs.Machine.Scans.{back_some, back_nil, backs_past}
use Rattle.warp_core.proofs.outboxes.take_back.Goals as goal
use Rattle.warp_core.proofs.outboxes.take_back.Goals.{then-is_some, else-is_some}

pub loop-l-preserved : goal.loop-l-preserved
loop-l-preserved c =
    let es = events_of c.args.entries.now in
    let puts = back_puts c.args.cut.now c.args.region c.args.key es in
    let any = first_from (is_told_own c.args.cut.now c.args.region) c.args.key es in
    elim c.if-is_some.branch [
      | then-is_some w ↦
          let room : vec_len w.index_mut.result.now < vec_capacity w.index_mut.result.now =
          subst (λ v. vec_len v < vec_capacity v) (sym w.index_mut.ensures.value) (c.loop-l.invariant.room c.loop-l.l w.index_mut.result.now (omega arith) (omega arith)) in
          let added : w.push_reserved.new.self.items ≡ w.index_mut.result.now.items ++ Back c.in-Some.least ∷ [] = grind (arith, common_steps, room) in
          rw w.outboxes-is (putting_push puts c.args.outboxes.now.items c.loop-l.outboxes.items c.loop-l.l w.index_mut.result.now w.push_reserved.new.self (Back c.in-Some.least) c.loop-l.invariant (omega arith) w.index_mut.ensures.value added
          (ap (λ o. back_at o any) (sym c.first_told.ensures) ∙ back_some c.first_told.result any c.in-Some.least (sym c.is_some.ensures ∙ w.if-is_some.true) (sym c.first_told_to_some.ensures ∙ c.in-Some.is)))
      | else-is_some w ↦ rw w.outboxes-is (putting_skip puts c.args.outboxes.now.items c.loop-l.outboxes.items c.loop-l.l c.loop-l.invariant
          (ap (λ o. back_at o any) (sym c.first_told.ensures) ∙ back_nil c.first_told.result any (sym c.is_some.ensures ∙ w.if-is_some.false)))
    ]

pub returns-clause-told : goal.returns-clause-told
returns-clause-told c l =
    let es = events_of c.args.entries.now in
    putting_done (back_puts c.args.cut.now c.args.region c.args.key es) c.args.outboxes.now.items c.loop-l.outboxes.items c.loop-l.l c.loop-l.invariant (omega (arith, c.loop-l.invariant.long, c.requires.regions))
    (λ m h. backs_past c.args.cut.now c.args.region c.args.key es m (λ k q. told_below c.args.cut.now k q c.count-l-end.ensures.cut) (omega (arith, h, c.requires.regions))) l
