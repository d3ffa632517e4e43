use Rattle.regions.proofs.Near.{told_is_near}
use Rattle.regions.proofs.laws.neighbours_alone.Goals as goal

pub returns : goal.returns
returns c = told_is_near
