use Rattle.lattice.proofs.LawLemmas.{sites_differ, same_sites}
use Rattle.lattice.proofs.laws.places_differ.Goals as goal

pub returns-clause-sites : goal.returns-clause-sites
returns-clause-sites c = sites_differ

pub returns-clause-places : goal.returns-clause-places
returns-clause-places c = same_sites
