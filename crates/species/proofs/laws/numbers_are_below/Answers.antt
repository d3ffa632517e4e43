use Rattle.species.proofs.LawLemmas.{is_in-index}
use Rattle.species.proofs.laws.numbers_are_below.Goals as goal

pub returns : goal.returns
returns c = is_in-index
