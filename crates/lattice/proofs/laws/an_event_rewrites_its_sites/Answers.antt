use Rattle.lattice.proofs.LawLemmas.{after_length, after_site, after_none, after_first, after_second, after_other}
use Rattle.lattice.proofs.laws.an_event_rewrites_its_sites.Goals as goal

pub returns-clause-count : goal.returns-clause-count
returns-clause-count c = after_length

pub returns-clause-site : goal.returns-clause-site
returns-clause-site c = after_site

pub returns-clause-nothing : goal.returns-clause-nothing
returns-clause-nothing c = after_none

pub returns-clause-first : goal.returns-clause-first
returns-clause-first c = after_first

pub returns-clause-second : goal.returns-clause-second
returns-clause-second c = after_second

pub returns-clause-other : goal.returns-clause-other
returns-clause-other c = after_other
