use Rattle.timeline.proofs.Leading.{step_applied}
use Rattle.timeline.proofs.laws.applying_is_a_step.Goals as goal

pub returns : goal.returns
returns c = step_applied
