use Rattle.std.proofs.Common.{◌≡◌, ◌<◌, ◌∙◌, refl, sym, ap, subst, arith}
use Rattle.warp_core.specs.World.{World}
use Rattle.warp_core.specs.Cores.{Core, IsConsistent}
use Rattle.warp_core.specs.Steps.{StepOf}
use Rattle.warp_core.specs.declared.step.Step.{Step}
use Rattle.warp_core.specs.Settling.{load, TakesTo}
use Rattle.warp_core.proofs.LawLemmas.{take_falls}
use Rattle.warp_core.proofs.LawLemmas.{swept_nothing, swept_took, swept_end, takes_consistent}
use Rattle.crew.proofs.deliver.drain.Goals as goal

pub loop-moved-init : goal.loop-moved-init
loop-moved-init g c = (refl, swept_nothing (g.M.Machine.world c.args.m.now) (g.M.Machine.core c.args.m.now), refl)

pub deliver-requires-clause-inside : goal.deliver-requires-clause-inside
deliver-requires-clause-inside g c =
    let same : (g.M.Machine.world c.loop-moved.m).regions ≡ (g.M.Machine.world c.args.m.now).regions = ap (λ (w : World). w.regions) c.loop-moved.invariant.0 in
    (omega (arith, same, c.requires.inside.0), omega (arith, same, c.requires.inside.1), c.requires.inside.2)

pub deliver-requires-clause-good : goal.deliver-requires-clause-good
deliver-requires-clause-good g c =
    subst (λ w. IsConsistent w (g.M.Machine.core c.loop-moved.m)) (sym c.loop-moved.invariant.0)
    (takes_consistent (g.M.Machine.world c.args.m.now) (g.M.Machine.core c.args.m.now) (g.M.Machine.core c.loop-moved.m) c.loop-moved.invariant.1.takes c.requires.good)

pub returns-in_err-deliver-clause-world : goal.returns-in_err-deliver-clause-world
returns-in_err-deliver-clause-world g c = c.in_err-deliver.ensures.world ∙ c.loop-moved.invariant.0

pub returns-in_err-deliver-clause-rest : goal.returns-in_err-deliver-clause-rest
returns-in_err-deliver-clause-rest g c = c.in_err-deliver.ensures.rest ∙ c.loop-moved.invariant.2

pub returns-in_err-deliver-clause-takes : goal.returns-in_err-deliver-clause-takes
returns-in_err-deliver-clause-takes g c =
    subst (λ (x : Core). TakesTo (g.M.Machine.world c.args.m.now) (g.M.Machine.core c.args.m.now) x) (sym c.in_err-deliver.ensures.err) c.loop-moved.invariant.1.takes

pub loop-moved-smaller : goal.loop-moved-smaller
loop-moved-smaller g c =
    let w = g.M.Machine.world c.loop-moved.m in
    subst (λ v. load v (g.M.Machine.core c.deliver.new.self) < load w (g.M.Machine.core c.loop-moved.m)) (sym c.in_ok-deliver.ensures.world)
    (take_falls w (g.M.Machine.core c.loop-moved.m) (g.M.Machine.core c.deliver.new.self) c.args.from c.args.to (c.in_ok-deliver.ensures.done c.if-branch.true))

pub loop-moved-preserved : goal.loop-moved-preserved
loop-moved-preserved g c =
    let same = c.loop-moved.invariant.0 in (
      c.in_ok-deliver.ensures.world ∙ same,
      swept_took (g.M.Machine.world c.args.m.now) (g.M.Machine.core c.args.m.now) (g.M.Machine.core c.loop-moved.m) (g.M.Machine.core c.deliver.new.self) c.loop-moved.moved (λ _. Unit {0}) (λ _. Unit {0}) c.args.from c.args.to c.loop-moved.invariant.1
          (subst (λ v. StepOf v (g.M.Machine.core c.loop-moved.m) (Step.Take c.args.from c.args.to) (g.M.Machine.core c.deliver.new.self)) same (c.in_ok-deliver.ensures.done c.if-branch.true)),
      c.in_ok-deliver.ensures.rest ∙ c.loop-moved.invariant.2,
    )

pub returns-clause-world : goal.returns-clause-world
returns-clause-world g c = c.in_ok-deliver.ensures.world ∙ c.loop-moved.invariant.0

pub returns-clause-rest : goal.returns-clause-rest
returns-clause-rest g c = c.in_ok-deliver.ensures.rest ∙ c.loop-moved.invariant.2

pub returns-clause-takes : goal.returns-clause-takes
returns-clause-takes g c =
    subst (λ (x : Core). TakesTo (g.M.Machine.world c.args.m.now) (g.M.Machine.core c.args.m.now) x) (sym (c.in_ok-deliver.ensures.not_now c.if-branch.false).0) c.loop-moved.invariant.1.takes

pub returns-clause-swept : goal.returns-clause-swept
returns-clause-swept g c =
    let none = c.in_ok-deliver.ensures.not_now c.if-branch.false in
    swept_end (g.M.Machine.world c.args.m.now) (g.M.Machine.core c.args.m.now) (g.M.Machine.core c.loop-moved.m) (g.M.Machine.core c.deliver.new.self) c.loop-moved.moved c.args.from c.args.to c.loop-moved.invariant.1 none.0 none.1
