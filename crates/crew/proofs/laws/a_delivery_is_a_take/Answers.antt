use Rattle.crew.proofs.Deliveries.{delivered, delivered_crew, none_core, none_before, none_crew}
use Rattle.crew.proofs.laws.a_delivery_is_a_take.Goals as goal

pub returns-clause-take : goal.returns-clause-take
returns-clause-take c = λ v past base rs j i f t g u crew two d. delivered v past base crew rs j i f t g u two d

pub returns-clause-crew : goal.returns-clause-crew
returns-clause-crew c = λ v past base rs j i f t g u crew two d. delivered_crew v past base crew rs j i f t g u two d

pub returns-clause-none : goal.returns-clause-none
returns-clause-none c = λ v past base rs j i f t g u crew two d. none_core v past base crew rs j i f t g u two d

pub returns-clause-empty : goal.returns-clause-empty
returns-clause-empty c = λ v past base rs j i f t g u crew two d. none_before v past base crew rs j i f t g u two d

pub returns-clause-none_crew : goal.returns-clause-none_crew
returns-clause-none_crew c = λ v past base rs j i f t g u crew two d. none_crew v past base crew rs j i f t g u two d
