use Rattle.warp_core.proofs.LawLemmas.{only_one}
use Rattle.warp_core.proofs.laws.one_timeline_is_local.Goals as goal

pub returns : goal.returns
returns c = only_one
