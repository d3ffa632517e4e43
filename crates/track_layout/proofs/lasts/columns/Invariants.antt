use Rattle.track_layout.specs.Sweep.{AreLasts}
use Rattle.track_layout.proofs.lasts.columns.Given as goal

abbrev pub invariant-loop-col : goal.invariant-loop-col
invariant-loop-col l = AreLasts l.circuit l.lasts.items l.col
