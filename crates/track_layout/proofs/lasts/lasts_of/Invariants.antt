use Rattle.track_layout.specs.Sweep.{AreEnds}
use Rattle.track_layout.proofs.lasts.lasts_of.Given as goal

abbrev pub invariant-loop-output : goal.invariant-loop-output
invariant-loop-output l = AreEnds l.circuit l.lasts.items l.output
