use Rattle.std.proofs.Common.{subst}
use Rattle.warp_core.specs.Cores.{Core}
use Rattle.warp_core.specs.World.{World}
use Rattle.warp_core.specs.Settling.{StepsOne}
use Rattle.crew.specs.Crews.{CrewView, world_in, core_in}
use Rattle.crew.proofs.Ready.{rest_world}
use Rattle.crew.proofs.crew.CrewMachine.step_one.Goals as goal

pub returns-clause-one : goal.returns-clause-one
returns-clause-one c =
    subst (λ (w : World). StepsOne w (core_in c.args.self.now) c.args.region (core_in c.step.new.self)) (rest_world c.make_room.new.self c.args.self.now c.in_ok-make_room.ensures.rest)
    (subst (λ (k : Core). StepsOne (world_in c.make_room.new.self) k c.args.region (core_in c.step.new.self)) c.in_ok-make_room.ensures.same c.step.ensures.one)
