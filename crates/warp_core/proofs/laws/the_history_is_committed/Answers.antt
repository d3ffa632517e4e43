use Rattle.warp_core.proofs.LawLemmas.{committed_law, steps_grow}
use Rattle.warp_core.proofs.laws.the_history_is_committed.Goals as goal

pub returns-clause-history : goal.returns-clause-history
returns-clause-history c = committed_law

pub returns-clause-grows : goal.returns-clause-grows
returns-clause-grows c = steps_grow
