use Rattle.std.proofs.Common.{◌+◌}
use Rattle.surface_rows.specs.Rows.{rows_text}
use Rattle.surf_outside.proofs.LawLemmas.{wrote_by, wrote_nothing, wrote_as, wrote_more, puts_as, fails_behind}
use Rattle.surface_rows.proofs.RowParts.{rows-none, rows-more, rows-within}
use Rattle.surface_rows.proofs.rows.write_rows.Goals as goal

pub loop-row-init : goal.loop-row-init
loop-row-init g c = wrote_as (rows_text c.args.names.now 0 c.args.cols c.args.cells.now) (rows-none c.args.names.now c.args.cols c.args.cells.now) (wrote_nothing _ _)

pub returns-in_err-write_row_of-clause-err : goal.returns-in_err-write_row_of-clause-err
returns-in_err-write_row_of-clause-err g c =
    let within = rows-within c.args.names.now c.loop-row.row c.args.rows c.args.cols c.args.cells.now c.loop-row-test.true in
    let p =
    puts_as (rows_text c.args.names.now c.args.rows c.args.cols c.args.cells.now) within.1
    (fails_behind _ within.0 c.from_residual.result c.from_residual.ensures.1 c.loop-row.invariant c.in_err-write_row_of.ensures)
    in
    p.err

pub loop-row-preserved : goal.loop-row-preserved
loop-row-preserved g c =
    wrote_as (rows_text c.args.names.now (c.loop-row.row + 1) c.args.cols c.args.cells.now)
    (rows-more c.args.names.now c.loop-row.row c.args.cols c.args.cells.now)
    (wrote_more c.loop-row.invariant (wrote_by c.in_ok-write_row_of.ensures))
