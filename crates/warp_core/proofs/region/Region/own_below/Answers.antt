use Rattle.std.proofs.Common.{sym, arith, subst}
use Rattle.warp_core.specs.Grounds.{ArePlaces}
use Rattle.warp_core.proofs.Machine.Scans.{place_at}
use Rattle.warp_core.proofs.region.Region.own_below.Goals as goal

pub owner-requires : goal.owner-requires
owner-requires c =
    let places : ArePlaces c.args.cut.now.lattice c.entries-entry-items.result.now = subst (ArePlaces c.args.cut.now.lattice) (sym c.entries-entry-items.ensures.entries) c.requires in
    place_at c.args.cut.now.lattice c.entries-entry-items.result.now c.loop-entry.entry-index _ places (omega arith)
