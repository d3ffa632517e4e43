use Rattle.species.proofs.LawLemmas.{list_any-position}
use Rattle.species.proofs.laws.places_are_below.Goals as goal

pub returns : goal.returns
returns g c = list_any-position
