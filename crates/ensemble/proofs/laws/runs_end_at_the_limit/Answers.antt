use Rattle.ensemble.specs.Outcomes.{history_with, nth_seed}
use Rattle.ensemble.proofs.Outcoming.{within_limit, past_limit, events_within}
use Rattle.ensemble.proofs.laws.runs_end_at_the_limit.Goals as goal

pub returns-clause-ended : goal.returns-clause-ended
returns-clause-ended c = λ m s i le. within_limit s.limit m (nth_seed s i) (history_with m (nth_seed s i) s.until) le

pub returns-clause-cut : goal.returns-clause-cut
returns-clause-cut c = λ m s i lt. past_limit s.limit m (nth_seed s i) (history_with m (nth_seed s i) s.until) lt

pub returns-clause-events : goal.returns-clause-events
returns-clause-events c = events_within
