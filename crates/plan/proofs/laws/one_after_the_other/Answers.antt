use Rattle.plan.specs.History.{history}
use Rattle.plan.proofs.Histories.{is_history, only_history, history_due, history_none, history_next}
use Rattle.plan.proofs.laws.one_after_the_other.Goals as goal

pub returns-clause-is_one : goal.returns-clause-is_one
returns-clause-is_one c = is_history

pub returns-clause-only_one : goal.returns-clause-only_one
returns-clause-only_one c = λ n until sites es h. only_history n until es (history n until sites) sites h (is_history n until sites)

pub returns-clause-due : goal.returns-clause-due
returns-clause-due c = history_due

pub returns-clause-none : goal.returns-clause-none
returns-clause-none c = history_none

pub returns-clause-next : goal.returns-clause-next
returns-clause-next c = history_next
