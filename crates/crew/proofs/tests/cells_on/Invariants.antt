use Rattle.std.proofs.Common.{◌≡◌, ◌<◌, All, length}
use Rattle.crew.proofs.tests.cells_on.Given as goal

abbrev pub invariant-loop-site : goal.invariant-loop-site
invariant-loop-site l = (length l.cells.items ≡ l.site) × All (λ s. s.0 < 4) l.cells.items
