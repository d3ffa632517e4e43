use Rattle.frames.proofs.States.{after-snoc, after-events, after-length}
use Rattle.frames.proofs.laws.states_count_changes.Goals as goal

pub returns-clause-events : goal.returns-clause-events
returns-clause-events c = after-events

pub returns-clause-kinds : goal.returns-clause-kinds
returns-clause-kinds c = after-length

pub returns-clause-further : goal.returns-clause-further
returns-clause-further c = after-snoc
