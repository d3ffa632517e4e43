use Rattle.track_layout.specs.Sweep.{AreCells}
use Rattle.track_layout.proofs.cells.cells_of.Given as goal

abbrev pub invariant-loop-net : goal.invariant-loop-net
invariant-loop-net l = AreCells l.circuit l.tracks l.count l.cells.items l.net
