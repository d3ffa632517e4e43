use Rattle.warp_core.proofs.LawLemmas.{take_falls, takes_end}
use Rattle.warp_core.proofs.laws.deliveries_end.Goals as goal

pub returns-clause-falls : goal.returns-clause-falls
returns-clause-falls c = take_falls

pub returns-clause-all : goal.returns-clause-all
returns-clause-all c = takes_end
