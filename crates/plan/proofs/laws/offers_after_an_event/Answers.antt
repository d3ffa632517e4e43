use Rattle.plan.proofs.Changes.{shares, offer_apart, offer_shared, offer_after, offer_again}
use Rattle.plan.proofs.laws.offers_after_an_event.Goals as goal

pub returns-clause-old_or_later : goal.returns-clause-old_or_later
returns-clause-old_or_later c = offer_after

pub returns-clause-again : goal.returns-clause-again
returns-clause-again c = offer_again

pub returns-clause-shared : goal.returns-clause-shared
returns-clause-shared c = offer_shared

pub returns-clause-apart : goal.returns-clause-apart
returns-clause-apart c = offer_apart

pub returns-clause-decided : goal.returns-clause-decided
returns-clause-decided c = shares
