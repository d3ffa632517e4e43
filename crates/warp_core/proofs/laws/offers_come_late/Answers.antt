use Rattle.warp_core.proofs.LawLemmas.{offers_late}
use Rattle.warp_core.proofs.laws.offers_come_late.Goals as goal

pub returns : goal.returns
returns c = offers_late
