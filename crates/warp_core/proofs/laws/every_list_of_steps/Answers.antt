use Rattle.warp_core.proofs.LawLemmas.{core_law}
use Rattle.warp_core.proofs.laws.every_list_of_steps.Goals as goal

pub returns : goal.returns
returns c = core_law
