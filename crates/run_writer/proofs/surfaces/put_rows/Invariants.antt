use Rattle.surface_rows.specs.Rows.{rows_text}
use Rattle.trace_text.specs.Lines.{cells_of}
use Rattle.run_writer.specs.Pages.{page, Wrote}
use Rattle.run_writer.proofs.surfaces.put_rows.Given as goal

abbrev pub invariant-loop-row : goal.invariant-loop-row
invariant-loop-row g l =
    Wrote (page (g.O.Sink.written l.fn.out) (g.O.Sink.faults l.fn.out) l.fn.buffer) (page (g.O.Sink.written l.out) (g.O.Sink.faults l.out) l.buffer)
    (rows_text l.names l.row l.lattice.cols (cells_of l.surface.sites))
