use Rattle.plan.proofs.Changes.{after_elsewhere}
use Rattle.plan.proofs.laws.sites_elsewhere_stay.Goals as goal

pub returns : goal.returns
returns c = after_elsewhere
