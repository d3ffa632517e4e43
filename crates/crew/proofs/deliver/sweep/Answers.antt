use Rattle.std.proofs.Common.{◌∙◌, sym, subst}
use Rattle.warp_core.specs.Cores.{IsConsistent}
use Rattle.warp_core.specs.Settling.{TakesTo}
use Rattle.warp_core.specs.SettlingLoops.{Swept, RowEmpty}
use Rattle.warp_core.proofs.LawLemmas.{swept_row, swept_no_row, takes_consistent, takes_join}
use Rattle.crew.proofs.deliver.sweep.Goals as goal
use Rattle.crew.proofs.deliver.sweep.Goals.{then-branch, else-branch}

pub sweep_from-requires-clause-good : goal.sweep_from-requires-clause-good
sweep_from-requires-clause-good g c =
    subst (λ w. IsConsistent w (g.M.Machine.core c.loop-from.m)) (sym c.loop-from.invariant.0)
    (takes_consistent (g.M.Machine.world c.args.m.now) (g.M.Machine.core c.args.m.now) (g.M.Machine.core c.loop-from.m) c.loop-from.invariant.1.takes c.requires.good)

pub returns-in_err-sweep_from-clause-takes : goal.returns-in_err-sweep_from-clause-takes
returns-in_err-sweep_from-clause-takes g c =
    takes_join (g.M.Machine.world c.args.m.now) (g.M.Machine.core c.args.m.now) (g.M.Machine.core c.loop-from.m) (g.M.Machine.core c.sweep_from.new.m) c.loop-from.invariant.1.takes
    (subst (λ v. TakesTo v (g.M.Machine.core c.loop-from.m) (g.M.Machine.core c.sweep_from.new.m)) c.loop-from.invariant.0 c.sweep_from.ensures.takes)

pub loop-from-preserved : goal.loop-from-preserved
loop-from-preserved g c =
    let w = g.M.Machine.world c.args.m.now in
    let old = g.M.Machine.core c.args.m.now in
    let mid = g.M.Machine.core c.loop-from.m in
    let new = g.M.Machine.core c.sweep_from.new.m in
    let same = c.loop-from.invariant.0 in
    let row : Swept w mid new c.in_ok-sweep_from.field-0 (RowEmpty c.loop-from.from w.regions) =
    subst (λ n. Swept w mid new c.in_ok-sweep_from.field-0 (RowEmpty c.loop-from.from n)) c.requires.inside
    (subst (λ v. Swept v mid new c.in_ok-sweep_from.field-0 (RowEmpty c.loop-from.from c.args.n)) same c.in_ok-sweep_from.ensures.swept) in
    elim c.if-branch.branch [
      | then-branch b ↦ rw b.moved-is (c.in_ok-sweep_from.ensures.world ∙ same, swept_row w old mid new c.loop-from.moved c.in_ok-sweep_from.field-0 c.loop-from.from c.loop-from.invariant.1 row b.if-branch.true, c.in_ok-sweep_from.ensures.rest ∙ c.loop-from.invariant.2)
      | else-branch b ↦ rw b.moved-is (c.in_ok-sweep_from.ensures.world ∙ same, swept_no_row w old mid new c.loop-from.moved c.in_ok-sweep_from.field-0 c.loop-from.from c.loop-from.invariant.1 row b.if-branch.false, c.in_ok-sweep_from.ensures.rest ∙ c.loop-from.invariant.2)
    ]
