use Rattle.warp_core.proofs.LawLemmas.{first_consistent}
use Rattle.warp_core.proofs.laws.the_first_is_consistent.Goals as goal

pub returns : goal.returns
returns c = first_consistent
