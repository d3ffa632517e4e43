use Rattle.crew.proofs.Work.{turn_worked}
use Rattle.crew.proofs.laws.a_turn_is_work.Goals as goal

pub returns : goal.returns
returns c = turn_worked
