use Rattle.std.proofs.Common.{◌++◌, codes}
use Rattle.surface_rows.specs.Rows.{lines_text, row_lines, rows_text}
use Rattle.surf_outside.proofs.LawLemmas.{wrote_by, puts_as, wrote_more, puts_after, fails_within, fails_behind}
use Rattle.manifest_write.proofs.Spellings.Forms.{surface_text, section-text, section-end}
use Rattle.manifest_write.proofs.writing.write_surface.Goals as goal

pub returns-in_err-put : goal.returns-in_err-put
unfolding rows_text
returns-in_err-put g c =
    let m = c.args.m.now in
    let rows = row_lines m.names m.lattice.rows m.lattice.cols m.cells in
    puts_as (surface_text m) (section-text (codes "!START_INIT_STATE") (codes "!END_INIT_STATE") rows)
    (fails_within _ (lines_text rows ++ codes "!END_INIT_STATE\n") c.from_residual.result c.from_residual.ensures.1 c.in_err-put.ensures)

pub returns-in_err-put_rows : goal.returns-in_err-put_rows
unfolding rows_text
returns-in_err-put_rows g c =
    let m = c.args.m.now in
    let rows = row_lines m.names m.lattice.rows m.lattice.cols m.cells in
    puts_as (surface_text m) (section-end (codes "!START_INIT_STATE") (codes "!END_INIT_STATE") rows)
    (fails_behind _ (codes "!END_INIT_STATE\n") c.from_residual-in_err-put_rows.result c.from_residual-in_err-put_rows.ensures.1 (wrote_by c.in_ok-put.ensures) c.in_err-put_rows.ensures)

pub returns : goal.returns
unfolding rows_text
returns g c =
    let m = c.args.m.now in
    let rows = row_lines m.names m.lattice.rows m.lattice.cols m.cells in
    puts_as (surface_text m) (section-end (codes "!START_INIT_STATE") (codes "!END_INIT_STATE") rows)
    (puts_after c.put-2.result (wrote_more (wrote_by c.in_ok-put.ensures) (wrote_by c.in_ok-put_rows.ensures)) c.put-2.ensures)
