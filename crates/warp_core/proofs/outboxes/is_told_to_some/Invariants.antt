use Rattle.std.proofs.Common.{◌≡◌}
use Rattle.regions.specs.Seen.{is_told}
use Rattle.warp_core.specs.Parts.{is_told_to_some}
use Rattle.warp_core.proofs.outboxes.is_told_to_some.Given as goal

abbrev pub invariant-loop-region : goal.invariant-loop-region
invariant-loop-region l = l.found ≡ is_told_to_some (is_told l.cut) l.region l.place.0
