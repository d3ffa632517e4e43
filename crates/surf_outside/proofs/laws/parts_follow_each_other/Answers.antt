use Rattle.surf_outside.proofs.PartTexts.{parts-more, parts-within}
use Rattle.surf_outside.proofs.laws.parts_follow_each_other.Goals as goal

pub returns-clause-more : goal.returns-clause-more
returns-clause-more c = parts-more

pub returns-clause-within : goal.returns-clause-within
returns-clause-within c = parts-within
