use Rattle.crew.specs.Rings.{AreJoinedBelow, StayFirst}
use Rattle.crew.proofs.making.join_all.Given as goal

abbrev pub invariant-loop-i : goal.invariant-loop-i
invariant-loop-i l = AreJoinedBelow l.cut l.slots l.i l.regions × StayFirst l.fn.regions l.regions
