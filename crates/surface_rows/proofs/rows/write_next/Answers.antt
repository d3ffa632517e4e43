use Rattle.surf_outside.proofs.LawLemmas.{wrote_by, puts_after}
use Rattle.surface_rows.proofs.rows.write_next.Goals as goal

pub returns : goal.returns
returns g c = puts_after c.put-2.result (wrote_by c.in_ok-put.ensures) c.put-2.ensures
