use Rattle.surf_text.proofs.LawLemmas.{word-first, word-last}
use Rattle.surf_text.proofs.laws.first_words.Goals as goal

pub returns : goal.returns
returns c = record { first = word-first; last = word-last }
