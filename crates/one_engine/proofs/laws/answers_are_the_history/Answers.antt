use Rattle.one_engine.proofs.Firings.{firings_are}
use Rattle.one_engine.proofs.laws.answers_are_the_history.Goals as goal

pub returns-clause-events : goal.returns-clause-events
returns-clause-events c = λ until s t es h. (firings_are until s t es h).0

pub returns-clause-state : goal.returns-clause-state
returns-clause-state c = λ until s t es h. (firings_are until s t es h).1
