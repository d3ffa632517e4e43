use Rattle.std.proofs.Common.{arith}
use Rattle.trace_text.specs.Lines.{cells_of}
use Rattle.run_writer.proofs.SurfaceLines.{rows_begin, rows_step, rows_stop}
use Rattle.run_writer.proofs.surfaces.put_rows.Goals as goal

pub loop-row-init : goal.loop-row-init
loop-row-init g c = rows_begin c.args.names.now c.args.lattice.now.cols (cells_of c.args.surface.now.sites) _

pub loop-row-preserved : goal.loop-row-preserved
loop-row-preserved g c =
    rows_step c.args.names.now c.loop-row.row c.args.lattice.now.cols (cells_of c.args.surface.now.sites) _ _ _ c.loop-row.invariant c.in-Ok.ensures

pub returns-in-Err : goal.returns-in-Err
returns-in-Err g c =
    rows_stop c.args.names.now c.loop-row.row c.args.lattice.now.rows c.args.lattice.now.cols (cells_of c.args.surface.now.sites) _ _ _ c.in-Err.stop (omega (arith, c.loop-row-test.true)) c.loop-row.invariant c.in-Err.ensures
