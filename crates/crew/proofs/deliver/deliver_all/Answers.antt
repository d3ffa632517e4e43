use Rattle.std.proofs.Common.{◌∙◌, sym, subst}
use Rattle.warp_core.specs.Cores.{IsConsistent}
use Rattle.warp_core.specs.Settling.{TakesTo, AreEmpty}
use Rattle.warp_core.specs.SettlingLoops.{Swept, RowsEmpty}
use Rattle.warp_core.proofs.LawLemmas.{takes_join, takes_consistent, swept_measure, swept_empty}
use Rattle.crew.proofs.deliver.deliver_all.Goals as goal

pub sweep-requires-clause-good : goal.sweep-requires-clause-good
sweep-requires-clause-good g c =
    subst (λ w. IsConsistent w (g.M.Machine.core c.loop-moved.m)) (sym c.loop-moved.invariant.0)
    (takes_consistent (g.M.Machine.world c.args.m.now) (g.M.Machine.core c.args.m.now) (g.M.Machine.core c.loop-moved.m) c.loop-moved.invariant.1 c.requires.good)

pub returns-in_err-moved-clause-takes : goal.returns-in_err-moved-clause-takes
returns-in_err-moved-clause-takes g c =
    takes_join (g.M.Machine.world c.args.m.now) (g.M.Machine.core c.args.m.now) (g.M.Machine.core c.loop-moved.m) (g.M.Machine.core c.sweep.new.m) c.loop-moved.invariant.1
    (subst (λ v. TakesTo v (g.M.Machine.core c.loop-moved.m) (g.M.Machine.core c.sweep.new.m)) c.loop-moved.invariant.0 c.sweep.ensures.takes)

pub loop-moved-smaller : goal.loop-moved-smaller
loop-moved-smaller g c =
    swept_measure (g.M.Machine.world c.loop-moved.m) (g.M.Machine.world c.sweep.new.m) (g.M.Machine.core c.loop-moved.m) (g.M.Machine.core c.sweep.new.m) c.in_ok-moved.moved c.loop-moved.moved c.regions-n.result
    c.in_ok-moved.ensures.world c.in_ok-moved.ensures.swept c.loop-moved-test.true

pub loop-moved-preserved : goal.loop-moved-preserved
loop-moved-preserved g c =
    let w = g.M.Machine.world c.args.m.now in
    let same = c.loop-moved.invariant.0 in
    let swept : Swept w (g.M.Machine.core c.loop-moved.m) (g.M.Machine.core c.sweep.new.m) c.in_ok-moved.moved (RowsEmpty w c.regions-n.result) =
    subst (λ v. Swept v (g.M.Machine.core c.loop-moved.m) (g.M.Machine.core c.sweep.new.m) c.in_ok-moved.moved (RowsEmpty v c.regions-n.result)) same c.in_ok-moved.ensures.swept in (
      c.in_ok-moved.ensures.world ∙ same,
      takes_join w (g.M.Machine.core c.args.m.now) (g.M.Machine.core c.loop-moved.m) (g.M.Machine.core c.sweep.new.m) c.loop-moved.invariant.1 swept.takes,
      c.loop-moved.invariant.2,
      λ h. subst (λ v. AreEmpty v (g.M.Machine.core c.sweep.new.m)) (sym (c.in_ok-moved.ensures.world ∙ same)) (swept_empty w (g.M.Machine.core c.loop-moved.m) (g.M.Machine.core c.sweep.new.m) c.in_ok-moved.moved c.regions-n.result swept c.regions-n.ensures h),
      c.in_ok-moved.ensures.rest ∙ c.loop-moved.invariant.4,
    )
