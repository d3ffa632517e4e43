use Rattle.run_writer.proofs.SurfaceLines.{stops_in_heading, stops_in_rows, ends_with_counts}
use Rattle.run_writer.proofs.surfaces.put_lines.Goals as goal

pub returns-in-Err : goal.returns-in-Err
returns-in-Err g c = stops_in_heading c.args.names.now c.args.lattice.now c.args.surface.now.sites c.args.tick c.args.events _ _ c.in-Err.stop c.in-Err.ensures

pub returns-in-Err-put_rows : goal.returns-in-Err-put_rows
returns-in-Err-put_rows g c = stops_in_rows c.args.names.now c.args.lattice.now c.args.surface.now.sites c.args.tick c.args.events _ _ _ c.in-Err-put_rows.stop c.in-Ok.ensures c.in-Err-put_rows.ensures

pub returns : goal.returns
returns g c = ends_with_counts c.args.names.now c.args.lattice.now c.args.surface.now.sites c.args.tick c.args.events _ _ _ _ c.put_counts.result c.in-Ok.ensures c.in-Ok-put_rows.ensures c.put_counts.ensures
