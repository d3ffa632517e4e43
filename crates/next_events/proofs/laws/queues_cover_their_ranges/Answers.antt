use Rattle.next_events.proofs.Refreshing.{covers_range, covers_all}
use Rattle.next_events.proofs.laws.queues_cover_their_ranges.Goals as goal

pub returns-clause-range : goal.returns-clause-range
returns-clause-range c = covers_range

pub returns-clause-all : goal.returns-clause-all
returns-clause-all c = covers_all
