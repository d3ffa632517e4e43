use Rattle.std.proofs.Common.{◌≡◌, map}
use Rattle.std.specs.List.{range_with_len}
use Rattle.ensemble.specs.Outcomes.{nth_outcome}
use Rattle.ensemble.specs.Running.{IsTable}
use Rattle.ensemble.proofs.table.complete.Given as goal

abbrev pub invariant-loop-number : goal.invariant-loop-number
invariant-loop-number l = IsTable l.m l.settings l.table.items × (l.outcomes.items ≡ map (nth_outcome l.m l.settings) (range_with_len 0 l.number))
