use Rattle.std.proofs.Common.{◌≡◌, ◌∙◌, sym, ap, subst, true, false, []}
use Rattle.warp_core.specs.Cores.{Core}
use Rattle.warp_core.specs.World.{World}
use Rattle.warp_core.specs.Steps.{StepOf}
use Rattle.warp_core.specs.declared.step.Step.{Step}
use Rattle.crew.specs.Crews.{CrewView, world_in, core_in}
use Rattle.crew.proofs.Ready.{rest_world}
use Rattle.crew.proofs.crew.CrewMachine.deliver.Goals as goal

pub returns-clause-done : goal.returns-clause-done
returns-clause-done c e =
    subst (λ (w : World). StepOf w (core_in c.args.self.now) (Step.Take c.args.from c.args.to) (core_in c.give.new.self)) (rest_world c.make_room.new.self c.args.self.now c.in_ok-make_room.ensures.rest)
    (subst (λ (k : Core). StepOf (world_in c.make_room.new.self) k (Step.Take c.args.from c.args.to) (core_in c.give.new.self)) c.in_ok-make_room.ensures.same (c.give.ensures.done e))

pub returns-clause-not_now : goal.returns-clause-not_now
returns-clause-not_now c e =
    let n = c.give.ensures.not_now e in
    (n.0 ∙ c.in_ok-make_room.ensures.same, subst (λ (k : Core). k.channel c.args.from c.args.to ≡ []) c.in_ok-make_room.ensures.same n.1)
