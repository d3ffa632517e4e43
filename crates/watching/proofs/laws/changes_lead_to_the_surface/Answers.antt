use Rattle.watching.proofs.States.{state_is}
use Rattle.watching.proofs.laws.changes_lead_to_the_surface.Goals as goal

pub returns : goal.returns
returns c n until kinds sites es leaves long below next = state_is n until kinds leaves sites es long below next
