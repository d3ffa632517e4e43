use Rattle.timeline.proofs.Leading.{same_start}
use Rattle.timeline.proofs.laws.the_start_is_determined.Goals as goal

pub returns : goal.returns
returns c = same_start
