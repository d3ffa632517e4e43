use Rattle.surf_kinds.proofs.Rising.{strictly}
use Rattle.plan.specs.History.{history}
use Rattle.plan.proofs.Histories.{is_history, rising}
use Rattle.plan.proofs.laws.keys_rise.Goals as goal

pub returns : goal.returns
returns c = λ n until sites. strictly (history n until sites) (rising n until (history n until sites) sites (is_history n until sites))
