use Rattle.crew.proofs.Joins.{crew_joined, consistent_joined}
use Rattle.crew.proofs.laws.turns_join.Goals as goal

pub returns-clause-crew : goal.returns-clause-crew
returns-clause-crew c = λ v past base rs crew round. crew_joined v past base rs crew round

pub returns-clause-consistent : goal.returns-clause-consistent
returns-clause-consistent c = λ v past base rs crew round. consistent_joined v past base rs crew round
