use Rattle.std.proofs.Common.{◌++◌, sym, ◌∙◌, append_assoc}
use Rattle.surf_outside.proofs.LawLemmas.{wrote_by, wrote_more, fails_within, fails_behind, puts_after, puts_as}
use Rattle.surface_rows.specs.Rows.{rows_text}
use Rattle.trace_text.specs.Lines.{heading_text, cells_of, counts_text, surface_text}
use Rattle.trace_text.proofs.Texts.{surface-is}
use Rattle.trace_text.proofs.lines.write_surface.Goals as goal

pub returns-in_err-write_heading : goal.returns-in_err-write_heading
returns-in_err-write_heading g c =
    let names = c.args.names.now in
    let l = c.args.lattice.now in
    let sites = c.args.surface.now.sites in
    let heading = heading_text c.args.tick c.args.events in
    let rows = rows_text names l.rows l.cols (cells_of sites) in
    let counts = counts_text names sites in
    let p =
    puts_as (surface_text names l sites c.args.tick c.args.events) (sym (append_assoc heading rows counts) ∙ surface-is names l sites c.args.tick c.args.events)
    (fails_within _ (rows ++ counts) c.from_residual.result c.from_residual.ensures.1 c.in_err-write_heading.ensures)
    in
    record { ok = p.ok; err = p.err; cause = p.cause }

pub returns-in_err-write_surface_rows : goal.returns-in_err-write_surface_rows
returns-in_err-write_surface_rows g c =
    let names = c.args.names.now in
    let l = c.args.lattice.now in
    let sites = c.args.surface.now.sites in
    let p =
    puts_as (surface_text names l sites c.args.tick c.args.events) (surface-is names l sites c.args.tick c.args.events)
    (fails_behind _ (counts_text names sites) c.from_residual-in_err-write_surface_rows.result c.from_residual-in_err-write_surface_rows.ensures.1 (wrote_by c.in_ok-write_heading.ensures) c.in_err-write_surface_rows.ensures)
    in
    record { ok = p.ok; err = p.err; cause = p.cause }

pub returns : goal.returns
returns g c =
    let names = c.args.names.now in
    let l = c.args.lattice.now in
    let sites = c.args.surface.now.sites in
    let p =
    puts_as (surface_text names l sites c.args.tick c.args.events) (surface-is names l sites c.args.tick c.args.events)
    (puts_after c.write_counts.result (wrote_more (wrote_by c.in_ok-write_heading.ensures) (wrote_by c.in_ok-write_surface_rows.ensures)) c.write_counts.ensures)
    in
    record { ok = p.ok; err = p.err; cause = p.cause }
