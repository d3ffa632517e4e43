use Rattle.plan.specs.History.{history}
use Rattle.plan.proofs.LawLemmas.{is_history}
use Rattle.reach.proofs.Species.{prefix_reaches}
use Rattle.reach.proofs.laws.prefixes_are_reached.Goals as goal

pub returns : goal.returns
returns c n until k sites = prefix_reaches n until k (history n until sites) sites (is_history n until sites)
