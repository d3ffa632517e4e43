use Rattle.crew.proofs.Steps.{one_step, step_crew, same_core, same_crew}
use Rattle.crew.proofs.laws.a_step_is_one_of_the_core.Goals as goal

pub returns-clause-one : goal.returns-clause-one
returns-clause-one c = λ v past base rs i r t step crew one inside s none. one_step v past base crew rs i r t one inside step s none

pub returns-clause-crew : goal.returns-clause-crew
returns-clause-crew c = λ v past base rs i r t step crew one s. step_crew v past base crew rs i r t one step s

pub returns-clause-same : goal.returns-clause-same
returns-clause-same c = λ v past base rs i r t crew one s. same_core v past base crew rs i r t one s

pub returns-clause-same_crew : goal.returns-clause-same_crew
returns-clause-same_crew c = λ v past base rs i r t crew one s. same_crew v past base crew rs i r t one s
