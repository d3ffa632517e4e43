use Rattle.std.proofs.Common.{◌∷◌, []}
use Rattle.surf_outside.proofs.LawLemmas.{wrote_by, puts_after, fails_within}
use Rattle.surface_rows.proofs.rows.write_row.Goals as goal

pub returns-in_err-write_names : goal.returns-in_err-write_names
returns-in_err-write_names g c = fails_within _ (10 ∷ []) c.from_residual.result c.from_residual.ensures.1 c.in_err-write_names.ensures

pub returns : goal.returns
returns g c = puts_after c.put.result (wrote_by c.in_ok-write_names.ensures) c.put.ensures
