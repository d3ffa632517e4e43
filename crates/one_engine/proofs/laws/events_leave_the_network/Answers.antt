use Rattle.one_engine.proofs.Firings.{fired_network, fired_sites}
use Rattle.one_engine.proofs.laws.events_leave_the_network.Goals as goal

pub returns-clause-network : goal.returns-clause-network
returns-clause-network c = fired_network

pub returns-clause-sites : goal.returns-clause-sites
returns-clause-sites c = fired_sites
