use Rattle.std.proofs.Common.{subst}
use Rattle.warp_core.specs.World.{IsWorld}
use Rattle.warp_core.specs.Cores.{IsConsistent}
use Rattle.crew.specs.Crews.{CrewView, world_in, core_in}
use Rattle.crew.proofs.Present.{laws}
use Rattle.crew.proofs.crew.Crew.is_a_world.Goals as goal

pub returns-clause-world : goal.returns-clause-world
returns-clause-world c = subst (λ (v : CrewView). IsWorld (world_in v)) c.self.view_is (laws _ c.self.invariant.past c.self.invariant.base c.self.invariant.crew)

pub returns-clause-good : goal.returns-clause-good
returns-clause-good c = subst (λ (v : CrewView). IsConsistent (world_in v) (core_in v)) c.self.view_is c.self.invariant.consistent
