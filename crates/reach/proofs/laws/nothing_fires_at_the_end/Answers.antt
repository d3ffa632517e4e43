use Rattle.reach.proofs.Rests.{rests}
use Rattle.reach.proofs.laws.nothing_fires_at_the_end.Goals as goal

pub returns : goal.returns
returns c = rests
