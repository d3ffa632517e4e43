use Rattle.warp_core.proofs.LawLemmas.{cut}
use Rattle.warp_core.proofs.laws.a_cut_timeline_is_local.Goals as goal

pub returns : goal.returns
returns c = cut
