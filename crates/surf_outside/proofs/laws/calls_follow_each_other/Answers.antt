use Rattle.std.specs.Prelude.{Ok, Err}
use Rattle.surf_outside.proofs.LawLemmas.{puts_done, wrote_by, puts_after, fails_within, puts_as}
use Rattle.surf_outside.proofs.laws.calls_follow_each_other.Goals as goal

pub returns-clause-done : goal.returns-clause-done
returns-clause-done c _ _ _ _ _ _ p = puts_done p

pub returns-clause-wrote : goal.returns-clause-wrote
returns-clause-wrote c _ _ _ _ _ _ p = wrote_by p

pub returns-clause-after : goal.returns-clause-after
returns-clause-after c _ _ _ _ _ _ _ _ r p q = puts_after r p q

pub returns-clause-within : goal.returns-clause-within
returns-clause-within c _ _ _ _ _ y d e p = fails_within (λ _. Unit {0}) y (Err d) tt p

pub returns-clause-same : goal.returns-clause-same
returns-clause-same c _ _ _ _ _ y _ e p = puts_as y e p
