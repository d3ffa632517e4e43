use Rattle.crew.specs.Calls.{ChangesEach, IsSeen, AreLookedAt}
use Rattle.crew.proofs.turns.look_before.Given as goal

abbrev pub invariant-loop-j : goal.invariant-loop-j
invariant-loop-j l = AreLookedAt l.i l.j l.regions × ChangesEach IsSeen l.fn.regions l.regions
