use Rattle.warp_core.proofs.LawLemmas.{mergeable, merged_is}
use Rattle.warp_core.proofs.laws.merged_lists_are_committed.Goals as goal

pub returns-clause-mergeable : goal.returns-clause-mergeable
returns-clause-mergeable c = mergeable

pub returns-clause-merged : goal.returns-clause-merged
returns-clause-merged c = merged_is
