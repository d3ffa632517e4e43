use Rattle.regions.specs.Bands.{region_of}
use Rattle.regions.proofs.Rows.{region_has, one_has, has_below, first_is_own}
use Rattle.regions.proofs.laws.rows_are_parted.Goals as goal

pub returns-clause-one : goal.returns-clause-one
returns-clause-one c b row cut below = let h = region_has b row cut below in (region_of b row, h.below, h.has)

pub returns-clause-only_one : goal.returns-clause-only_one
returns-clause-only_one c b i j row cut h k = one_has b i j row cut.at_least h k

pub returns-clause-within : goal.returns-clause-within
returns-clause-within c b region row cut below h = has_below b region row cut.at_least below h

pub returns-clause-none_is_empty : goal.returns-clause-none_is_empty
returns-clause-none_is_empty c b region cut below = first_is_own b region cut
