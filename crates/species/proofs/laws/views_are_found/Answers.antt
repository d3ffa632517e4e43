use Rattle.species.proofs.LawLemmas.{position-map, list_any-map}
use Rattle.species.proofs.laws.views_are_found.Goals as goal

pub returns : goal.returns
returns g c = record { place = position-map; any = list_any-map }
