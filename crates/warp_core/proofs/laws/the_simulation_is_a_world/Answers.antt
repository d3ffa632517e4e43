use Rattle.warp_core.proofs.LawLemmas.{is_world, is_monotone}
use Rattle.warp_core.proofs.laws.the_simulation_is_a_world.Goals as goal

pub returns-clause-world : goal.returns-clause-world
returns-clause-world c = is_world

pub returns-clause-monotone : goal.returns-clause-monotone
returns-clause-monotone c = is_monotone
