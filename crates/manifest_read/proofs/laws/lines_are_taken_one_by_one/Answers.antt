use Rattle.manifest_read.proofs.LawLemmas.{state_after-more, content_of-more, fault-is}
use Rattle.manifest_read.proofs.laws.lines_are_taken_one_by_one.Goals as goal

pub returns-clause-state : goal.returns-clause-state
returns-clause-state c = state_after-more

pub returns-clause-content : goal.returns-clause-content
returns-clause-content c = content_of-more

pub returns-clause-fault : goal.returns-clause-fault
returns-clause-fault c = fault-is
