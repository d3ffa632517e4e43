use Rattle.track_layout.proofs.Frees.{pushed, distinct_pushed}
use Rattle.track_layout.proofs.free.give.Goals as goal

pub returns-clause-once : goal.returns-clause-once
returns-clause-once c = distinct_pushed (λ r. r.0) _ _ _ c.in_ok-push.ensures.permutation c.requires.absent c.requires.once

pub returns-clause-gives : goal.returns-clause-gives
returns-clause-gives c = pushed (λ r. r.0) _ _ _ c.in_ok-push.ensures.permutation
