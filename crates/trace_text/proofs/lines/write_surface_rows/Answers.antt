use Rattle.std.proofs.Common.{◌≡◌}
use Rattle.surf_outside.proofs.LawLemmas.{puts_as}
use Rattle.surface_rows.specs.Rows.{rows_text}
use Rattle.trace_text.specs.Lines.{cells_of}
use Rattle.trace_text.proofs.lines.write_surface_rows.Goals as goal

pub returns : goal.returns
returns g c =
    let names = c.args.names.now in
    let l = c.args.lattice.now in
    let rows = rows_text names l.rows l.cols (cells_of c.args.surface.now.sites) in
    let same : rows_text names c.rows.result c.cols.result c.cells.result.now ≡ rows = cc in
    puts_as rows same (record { ok = c.write_rows.ensures.ok; err = c.write_rows.ensures.err; cause = c.write_rows.ensures.cause })
