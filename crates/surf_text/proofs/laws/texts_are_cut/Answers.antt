use Rattle.surf_text.proofs.LawLemmas.{cut-front, cut-missing, line-first}
use Rattle.surf_text.proofs.laws.texts_are_cut.Goals as goal

pub returns : goal.returns
returns c = record { front = cut-front; missing = cut-missing; line = line-first }
