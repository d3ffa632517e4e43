use Rattle.std.proofs.Common.{refl}
use Rattle.std.proofs.lemmas.List.FromFn.{length-map-range_with_len}
use Rattle.ensemble.specs.Outcomes.{nth_outcome}
use Rattle.ensemble.proofs.laws.outcomes_are_those_of_the_seeds.Goals as goal

pub returns-clause-count : goal.returns-clause-count
returns-clause-count c = λ m s. length-map-range_with_len (nth_outcome m s) 0 s.seeds

pub returns-clause-workers : goal.returns-clause-workers
returns-clause-workers c = λ m s workers. refl
