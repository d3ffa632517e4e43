use Rattle.lattice.proofs.LawLemmas.{row_below, row_of_site, has_first, has_lower, has_upper, row_back}
use Rattle.lattice.proofs.laws.places_are_in_two_rows.Goals as goal

pub returns-clause-below : goal.returns-clause-below
returns-clause-below c = row_below

pub returns-clause-rows : goal.returns-clause-rows
returns-clause-rows c = row_of_site

pub returns-clause-first : goal.returns-clause-first
returns-clause-first c = has_first

pub returns-clause-lower : goal.returns-clause-lower
returns-clause-lower c = has_lower

pub returns-clause-upper : goal.returns-clause-upper
returns-clause-upper c = has_upper

pub returns-clause-back : goal.returns-clause-back
returns-clause-back c = row_back
