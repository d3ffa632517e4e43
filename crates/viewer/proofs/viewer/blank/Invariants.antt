use Rattle.std.proofs.Common.{◌≡◌, length}
use Rattle.viewer.proofs.viewer.blank.Given as goal

abbrev pub invariant-loop : goal.invariant-loop
invariant-loop l = length l.counts ≡ l.counter
