use Rattle.lattice.proofs.LawLemmas.{first_below, second_below, place_below, first_is, site_alone, sites_below}
use Rattle.lattice.proofs.laws.places_have_sites_of_the_lattice.Goals as goal

pub returns-clause-first : goal.returns-clause-first
returns-clause-first c = first_below

pub returns-clause-second : goal.returns-clause-second
returns-clause-second c = second_below

pub returns-clause-number : goal.returns-clause-number
returns-clause-number c = place_below

pub returns-clause-named : goal.returns-clause-named
returns-clause-named c = first_is

pub returns-clause-alone : goal.returns-clause-alone
returns-clause-alone c = site_alone

pub returns-clause-within : goal.returns-clause-within
returns-clause-within c = sites_below
