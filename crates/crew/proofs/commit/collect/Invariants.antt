use Rattle.std.proofs.Common.{map}
use Rattle.std.specs.Vec.{vec_items}
use Rattle.crew.specs.Calls.{AreOwnBelow}
use Rattle.crew.proofs.commit.collect.Given as goal

abbrev pub invariant-loop-i : goal.invariant-loop-i
invariant-loop-i l = AreOwnBelow l.key l.regions l.i (map vec_items l.lists.items)
