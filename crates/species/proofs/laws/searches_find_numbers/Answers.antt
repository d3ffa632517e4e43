use Rattle.species.proofs.LawLemmas.{index-within, found, missing}
use Rattle.species.proofs.laws.searches_find_numbers.Goals as goal

pub returns : goal.returns
returns c = record { found = found; missing = missing; within = index-within }
