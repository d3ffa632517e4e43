use Rattle.rates.proofs.Waiting.{wait-at_least, wait-at_most, wait-instant}
use Rattle.rates.proofs.waits.wait_bounds.Goals as goal

pub returns-clause-at_least : goal.returns-clause-at_least
returns-clause-at_least c = wait-at_least

pub returns-clause-at_most : goal.returns-clause-at_most
returns-clause-at_most c = wait-at_most

pub returns-clause-instant : goal.returns-clause-instant
returns-clause-instant c = wait-instant
