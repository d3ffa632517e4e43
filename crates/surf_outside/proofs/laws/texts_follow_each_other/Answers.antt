use Rattle.surf_outside.proofs.LawLemmas.{wrote_nothing, wrote_more, wrote_as}
use Rattle.surf_outside.proofs.laws.texts_follow_each_other.Goals as goal

pub returns-clause-none : goal.returns-clause-none
returns-clause-none c = wrote_nothing

pub returns-clause-more : goal.returns-clause-more
returns-clause-more c _ _ _ _ _ _ _ _ p q = wrote_more p q

pub returns-clause-same : goal.returns-clause-same
returns-clause-same c _ _ _ _ _ y e p = wrote_as y e p
