use Rattle.crew.specs.Calls.{ChangesEach, IsSeen, AreLookedAt}
use Rattle.crew.proofs.turns.look_at_each.Given as goal

abbrev pub invariant-loop-i : goal.invariant-loop-i
invariant-loop-i l = AreLookedAt l.i 0 l.regions × ChangesEach IsSeen l.fn.regions l.regions
