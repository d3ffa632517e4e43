use Rattle.track_layout.specs.Sweep.{AreFirsts}
use Rattle.track_layout.proofs.lasts.firsts_of.Given as goal

abbrev pub invariant-loop-gate : goal.invariant-loop-gate
invariant-loop-gate l = AreFirsts l.circuit l.firsts.items l.gate
