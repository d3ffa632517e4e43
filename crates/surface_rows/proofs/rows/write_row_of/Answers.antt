use Rattle.std.proofs.Common.{◌++◌, ◌∷◌, [], map, ap}
use Rattle.surf_outside.proofs.LawLemmas.{puts_as}
use Rattle.surface_rows.specs.Rows.{name_of, row_line, spaced}
use Rattle.surface_rows.proofs.RowParts.{row-is}
use Rattle.surface_rows.proofs.rows.write_row_of.Goals as goal

pub returns : goal.returns
returns g c =
    let names = c.args.names.now in
    let cols = c.args.cols in
    let cells = c.args.cells.now in
    puts_as (row_line names cols cells c.args.row ++ 10 ∷ []) (ap (λ ids. spaced (map (name_of names) ids) ++ 10 ∷ []) (row-is cells c.args.row cols)) c.write_row.ensures
