use Rattle.crew.proofs.Commits as commits
use Rattle.crew.proofs.laws.a_commit_hands_out_the_history.Goals as goal

pub returns-clause-least : goal.returns-clause-least
returns-clause-least c = λ v past base k crew l. commits.least_clock v past base crew k l

pub returns-clause-mergeable : goal.returns-clause-mergeable
returns-clause-mergeable c = λ v past base k lists crew good may own. commits.can_merge v past base crew good k may lists own

pub returns-clause-handed : goal.returns-clause-handed
returns-clause-handed c = λ v past base k lists events crew good may own all order. commits.handed v past base crew good k may lists own events all order

pub returns-clause-consistent : goal.returns-clause-consistent
returns-clause-consistent c = λ v past base k rs crew good may gone. commits.consistent_then v past base crew good k may rs gone

pub returns-clause-crew : goal.returns-clause-crew
returns-clause-crew c = λ v past base k rs crew good may gone. (commits.past_then v past base crew good k may rs gone, commits.base_then v past base crew good k may rs gone, commits.crew_then v past base crew good k may rs gone)
