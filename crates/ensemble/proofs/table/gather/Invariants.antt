use Rattle.std.proofs.Common.{length}
use Rattle.std.specs.Prelude.{All, IfOk}
use Rattle.ensemble.specs.Running.{IsNumbered, IsTable}
use Rattle.ensemble.proofs.table.gather.Given as goal

abbrev pub invariant-loop-share : goal.invariant-loop-share
invariant-loop-share l = IsTable l.m l.settings l.table.items × All (λ s. IfOk s (λ found. All (IsNumbered l.m l.settings) found.items)) l.shares.items

abbrev pub decreases-loop-share : goal.decreases-loop-share
decreases-loop-share l = length l.shares.items
