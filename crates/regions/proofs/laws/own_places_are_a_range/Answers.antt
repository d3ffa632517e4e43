use Rattle.regions.proofs.Ranges.{is_range}
use Rattle.regions.proofs.laws.own_places_are_a_range.Goals as goal

pub returns : goal.returns
returns c = is_range
