use Rattle.run_writer.proofs.TextEnds.{ends, shows, ticks_end}
use Rattle.run_writer.proofs.laws.texts_end_with_their_events.Goals as goal

pub returns-clause-count : goal.returns-clause-count
returns-clause-count c es s r n is few = ends es s r n is few

pub returns-clause-surface : goal.returns-clause-surface
returns-clause-surface c es s r ticks n h last is few = shows es s r ticks n h last is few

pub returns-clause-ticks : goal.returns-clause-ticks
returns-clause-ticks c until samples some = ticks_end until samples some
