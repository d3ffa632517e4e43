use Rattle.border.specs.Stacked.{AreGrown, HaveRoom}
use Rattle.border.proofs.stacks.make_room.Given as goal

abbrev pub invariant-loop-i : goal.invariant-loop-i
invariant-loop-i l = AreGrown l.initial.stacks l.stacks × HaveRoom l.more l.i l.stacks
