use Rattle.surf_text.proofs.LawLemmas.{split-first, split-one}
use Rattle.surf_text.proofs.laws.first_pieces.Goals as goal

pub returns : goal.returns
returns c = record { first = split-first; one = split-one }
