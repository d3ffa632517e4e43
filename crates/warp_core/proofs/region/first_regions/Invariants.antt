use Rattle.warp_core.specs.FirstRegions.{AreFirst}
use Rattle.warp_core.proofs.region.first_regions.Given as goal

abbrev pub invariant-loop : goal.invariant-loop
invariant-loop l = AreFirst l.start l.count l.counter l.regions.items
