use Rattle.std.proofs.Common.{◌∷◌, ap}
use Rattle.surface_rows.specs.Rows.{name_of}
use Rattle.surf_outside.proofs.LawLemmas.{wrote_by, fails_within, puts_after, puts_as}
use Rattle.trace_text.proofs.lines.write_name.Goals as goal

pub returns-in_err-put : goal.returns-in_err-put
returns-in_err-put g c = fails_within _ (name_of c.args.names.now c.args.species) c.from_residual.result c.from_residual.ensures.1 c.in_err-put.ensures

pub returns : goal.returns
returns g c =
    puts_as (32 ∷ name_of c.args.names.now c.args.species) (ap (λ t. 32 ∷ t) c.name_bytes.ensures)
    (puts_after c.put-2.result (wrote_by c.in_ok-put.ensures) c.put-2.ensures)
