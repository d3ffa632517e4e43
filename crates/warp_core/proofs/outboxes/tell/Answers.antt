use Rattle.std.proofs.Common.{◌≡◌, ◌++◌, ◌∷◌, [], ◌<◌, ◌∙◌, arith, sym, ap, cond, subst, vec_len, vec_capacity}
use Rattle.std.proofs.lemmas.Grind.{common_steps}
use Rattle.border.specs.declared.op.Op.TheVariants.{Put}
use Rattle.regions.specs.Seen.{is_told}
use Rattle.regions.proofs.LawLemmas.{told_below}
use Rattle.warp_core.specs.Parts.{fire_puts}
use Rattle.warp_core.proofs.Machine.Vectors.{putting_done, putting_skip, putting_push}
use Rattle.warp_core.proofs.Machine.Scans.{puts_past}
use Rattle.warp_core.proofs.outboxes.tell.Goals as goal
use Rattle.warp_core.proofs.outboxes.tell.Goals.{then-tells, else-tells}

pub loop-l-preserved : goal.loop-l-preserved
loop-l-preserved c =
    let puts = fire_puts (is_told c.args.cut.now) c.args.event in
    elim c.if-tells.branch [
      | then-tells w ↦
          let room : vec_len w.index_mut.result.now < vec_capacity w.index_mut.result.now =
          subst (λ v. vec_len v < vec_capacity v) (sym w.index_mut.ensures.value) (c.loop-l.invariant.room c.loop-l.l w.index_mut.result.now (omega arith) (omega arith)) in
          let added : w.push_reserved.new.self.items ≡ w.index_mut.result.now.items ++ Put c.args.event ∷ [] = grind (arith, common_steps, room) in
          rw w.outboxes-is (putting_push puts c.args.outboxes.now.items c.loop-l.outboxes.items c.loop-l.l w.index_mut.result.now w.push_reserved.new.self (Put c.args.event) c.loop-l.invariant (omega arith) w.index_mut.ensures.value added (ap (λ b. cond b (Put c.args.event ∷ []) []) (sym c.tells.ensures ∙ w.if-tells.true)))
      | else-tells w ↦ rw w.outboxes-is (putting_skip puts c.args.outboxes.now.items c.loop-l.outboxes.items c.loop-l.l c.loop-l.invariant (ap (λ b. cond b (Put c.args.event ∷ []) []) (sym c.tells.ensures ∙ w.if-tells.false)))
    ]

pub returns-clause-told : goal.returns-clause-told
returns-clause-told c l =
    putting_done (fire_puts (is_told c.args.cut.now) c.args.event) c.args.outboxes.now.items c.loop-l.outboxes.items c.loop-l.l c.loop-l.invariant (omega (arith, c.loop-l.invariant.long, c.requires.regions))
    (λ m h. puts_past c.args.cut.now c.args.event m (λ k q. told_below c.args.cut.now k q c.count-l-end.ensures.cut) (omega (arith, h, c.requires.regions))) l
