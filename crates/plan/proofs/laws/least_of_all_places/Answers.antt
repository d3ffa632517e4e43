use Rattle.plan.proofs.Leasts.{least_is, least_none, due_next}
use Rattle.plan.proofs.laws.least_of_all_places.Goals as goal

pub returns-clause-some : goal.returns-clause-some
returns-clause-some c = least_is

pub returns-clause-none : goal.returns-clause-none
returns-clause-none c = least_none

pub returns-clause-due : goal.returns-clause-due
returns-clause-due c = due_next
