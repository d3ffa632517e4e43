use Rattle.plan.specs.History.{history}
use Rattle.plan.proofs.Histories.{found, only, at_history, is_history}
use Rattle.plan.proofs.laws.pointwise.Goals as goal

pub returns-clause-found : goal.returns-clause-found
returns-clause-found c = λ n until sites e p. found n until (history n until sites) sites e (is_history n until sites) p

pub returns-clause-only : goal.returns-clause-only
returns-clause-only c = λ n until sites e le o. only n until (history n until sites) sites e (is_history n until sites) le o

pub returns-clause-at_each_key : goal.returns-clause-at_each_key
returns-clause-at_each_key c = λ n until sites k le. at_history n until (history n until sites) sites k (is_history n until sites) le
