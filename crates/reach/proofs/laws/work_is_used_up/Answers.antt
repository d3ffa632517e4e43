use Rattle.reach.proofs.Counts.{uses_up}
use Rattle.reach.proofs.laws.work_is_used_up.Goals as goal

pub returns : goal.returns
returns c = uses_up
