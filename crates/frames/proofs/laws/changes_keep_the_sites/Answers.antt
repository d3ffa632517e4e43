use Rattle.frames.proofs.States.{next-total}
use Rattle.frames.proofs.laws.changes_keep_the_sites.Goals as goal

pub returns : goal.returns
returns c = next-total
