use Rattle.std.proofs.Common.{◌≡◌, map}
use Rattle.std.specs.List.{range_with_len}
use Rattle.workload.specs.Generated.{species_at}
use Rattle.workload.proofs.making.cells_on.Given as goal

abbrev pub invariant-loop-site : goal.invariant-loop-site
invariant-loop-site l = l.cells.items ≡ map (species_at l.number l.side) (range_with_len 0 l.site)
