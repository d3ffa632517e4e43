use Rattle.regions.specs.Bands.{owner_of}
use Rattle.regions.proofs.Rows.{one_has}
use Rattle.regions.proofs.Owners.{owner_below, owner_has}
use Rattle.regions.proofs.laws.places_have_one_owner.Goals as goal

pub returns-clause-below : goal.returns-clause-below
returns-clause-below c b place cut = owner_below b place cut

pub returns-clause-has : goal.returns-clause-has
returns-clause-has c b place p cut is = owner_has b place p cut is

pub returns-clause-no_other : goal.returns-clause-no_other
returns-clause-no_other c b place region p cut is h = one_has b region (owner_of b place) _ cut.at_least h (owner_has b place p cut is)
