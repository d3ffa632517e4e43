use Rattle.std.proofs.Common.{ap, arith}
use Rattle.warp_core.proofs.LawLemmas.{place_at}
use Rattle.surf_kinds.specs.Keys.{keep}
use Rattle.region_run.specs.Sides.{is_own_told, first_key}
use Rattle.region_run.proofs.telling.first_told.Goals as goal

pub told_from-requires : goal.told_from-requires
told_from-requires c = place_at c.args.cut.now.lattice c.args.entries.now c.loop-i.i _ c.requires.places (omega arith)

pub loop-i-init : goal.loop-i-init
loop-i-init c = ap (λ es. first_key (keep (is_own_told c.args.cut.now c.args.id c.args.side.now) es)) c.count_before-start.ensures
