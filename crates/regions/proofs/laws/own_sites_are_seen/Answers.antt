use Rattle.regions.proofs.Sights.{Decides-sees, sees_own}
use Rattle.regions.proofs.laws.own_sites_are_seen.Goals as goal

pub returns-clause-sees : goal.returns-clause-sees
returns-clause-sees c b region site = Decides-sees b region site

pub returns-clause-own : goal.returns-clause-own
returns-clause-own c b place site h = sees_own b place site h
