use Rattle.surf_text.proofs.LawLemmas.{words-few}
use Rattle.surf_text.proofs.laws.words_are_few.Goals as goal

pub returns : goal.returns
returns c = words-few
