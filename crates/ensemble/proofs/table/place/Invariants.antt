use Rattle.std.proofs.Common.{length}
use Rattle.std.specs.Prelude.{All}
use Rattle.ensemble.specs.Running.{IsNumbered, IsTable}
use Rattle.ensemble.proofs.table.place.Given as goal

abbrev pub invariant-loop-number : goal.invariant-loop-number
invariant-loop-number l = IsTable l.m l.fn.settings l.table.items × All (IsNumbered l.m l.fn.settings) l.found.items

abbrev pub decreases-loop-number : goal.decreases-loop-number
decreases-loop-number l = length l.found.items
