use Rattle.std.proofs.Common.{◌≡◌, refl, sym, ◌∙◌, ◌+◌, subst, arith, take}
use Rattle.warp_core.specs.Configs.{core_of, Tries}
use Rattle.warp_core.specs.Simulation.{world_in}
use Rattle.warp_core.specs.Tried.{count_of}
use Rattle.warp_core.proofs.Theory.Runs.{grows_more}
use Rattle.warp_core.proofs.Machine.Trying.{tries_next, count_few}
use Rattle.warp_core.proofs.config.Config.run_steps.Goals as goal

pub loop-step-preserved : goal.loop-step-preserved
loop-step-preserved c =
    let inv = c.loop-step.invariant in
    let counted : c.count-done.result ≡ count_of c.in_ok-did.did = c.count-done.ensures in
    record {
      kept = λ s g. c.step.ensures.kept s (inv.kept s g);
      tried = λ s g. subst (λ k. Tries (world_in c.args.plan.now s) (core_of c.args.self.now) (take (c.loop-step.step-index + 1) c.args.steps.now) (c.loop-step.done + k) (core_of c.step.new.self)) (sym counted) (tries_next (world_in c.args.plan.now s) (core_of c.args.self.now) c.args.steps.now c.loop-step.step-index c.loop-step.done (core_of c.loop-step.self) _ _ c.in_ok-did.did (core_of c.step.new.self) (inv.tried s g) c.loop-step-test.true refl (c.in_ok-did.ensures.made s (inv.kept s g)));
      grows = grows_more (core_of c.args.self.now).committed _ _ inv.grows c.step.ensures.grows;
      count = c.step.ensures.count ∙ inv.count;
      few = omega (arith, inv.few, counted, count_few c.in_ok-did.did);
    }
