use Rattle.plan.proofs.Offers.{offer_is, offer_place, offer_fits, offer_later, next_local}
use Rattle.plan.proofs.laws.offers_of_a_place.Goals as goal

pub returns-clause-offered : goal.returns-clause-offered
returns-clause-offered c = offer_is

pub returns-clause-place : goal.returns-clause-place
returns-clause-place c = offer_place

pub returns-clause-fits : goal.returns-clause-fits
returns-clause-fits c = offer_fits

pub returns-clause-later : goal.returns-clause-later
returns-clause-later c = offer_later

pub returns-clause-local : goal.returns-clause-local
returns-clause-local c = next_local
