use Rattle.border.proofs.Replays.{from_forgotten, from_replay, below_replay}
use Rattle.border.proofs.laws.stacks_may_forget.Goals as goal

pub returns-clause-forgotten : goal.returns-clause-forgotten
returns-clause-forgotten c = from_forgotten

pub returns-clause-alone : goal.returns-clause-alone
returns-clause-alone c = from_replay

pub returns-clause-stays : goal.returns-clause-stays
returns-clause-stays c = below_replay
