use Rattle.std.proofs.Common.{◌≡◌, length}
use Rattle.manifest_write.specs.Canon.{without_zeros}
use Rattle.manifest_write.proofs.pieces.without_zeros.Given as goal

abbrev pub invariant-loop-last : goal.invariant-loop-last
invariant-loop-last l = without_zeros l.rest ≡ without_zeros l.digits

abbrev pub decreases-loop-last : goal.decreases-loop-last
decreases-loop-last l = length l.rest
