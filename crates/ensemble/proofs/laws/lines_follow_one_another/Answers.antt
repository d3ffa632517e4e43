use Rattle.ensemble.proofs.Wordings.{texts-more, texts-within}
use Rattle.ensemble.proofs.laws.lines_follow_one_another.Goals as goal

pub returns-clause-more : goal.returns-clause-more
returns-clause-more g c = texts-more

pub returns-clause-within : goal.returns-clause-within
returns-clause-within g c = texts-within
