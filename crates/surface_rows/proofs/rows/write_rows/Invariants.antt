use Rattle.surface_rows.specs.Rows.{rows_text}
use Rattle.surf_outside.specs.Puts.{Wrote}
use Rattle.surface_rows.proofs.rows.write_rows.Given as goal

abbrev pub invariant-loop-row : goal.invariant-loop-row
invariant-loop-row g l =
    Wrote (g.O.Sink.written l.fn.out) (g.O.Sink.written l.out) (g.O.Sink.faults l.fn.out) (g.O.Sink.faults l.out)
    (rows_text l.names l.row l.cols l.cells)
