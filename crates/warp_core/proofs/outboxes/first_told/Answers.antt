use Rattle.std.proofs.Common.{◌==◌, sym, ◌∙◌, arith, subst}
use Rattle.std.proofs.lemmas.Bool.{eq-eqb, and_from}
use Rattle.surf_kinds.specs.declared.event.Key.{Key}
use Rattle.lattice.specs.Places.{IsPlace}
use Rattle.regions.specs.Bands.{owner_of}
use Rattle.regions.specs.Seen.{is_told}
use Rattle.timeline.specs.TimelineView.{events_of}
use Rattle.warp_core.specs.Backs.{is_told_of_own}
use Rattle.warp_core.proofs.Machine.Scans.{scan_is, scan_hit_at, scan_end, place_at}
use Rattle.warp_core.proofs.outboxes.first_told.Goals as goal

pub owner-requires : goal.owner-requires
owner-requires c = subst (λ (k : Key). IsPlace c.args.cut.now.lattice k.place.0) (sym c.key-here.ensures) (place_at c.args.cut.now.lattice c.args.entries.now c.loop-i.i _ c.requires (omega arith))

pub tells-requires : goal.tells-requires
tells-requires c = subst (λ (k : Key). IsPlace c.args.cut.now.lattice k.place.0) (sym c.key-here.ensures) (place_at c.args.cut.now.lattice c.args.entries.now c.loop-i.i _ c.requires (omega arith))

pub returns-then-tells : goal.returns-then-tells
returns-then-tells c =
    let here = c.key-here.result in
    sym (scan_is (is_told_of_own c.args.cut.now c.args.region c.args.l) c.args.key (events_of c.args.entries.now) ∙ (c.loop-i.invariant
    ∙ scan_hit_at (is_told_of_own c.args.cut.now c.args.region c.args.l) c.args.key c.args.entries.now c.loop-i.i _ here (omega arith) c.key-here.ensures (sym c.is_before.ensures ∙ c.if-not-is_before.true)
    (and_from (owner_of c.args.cut.now here.place.0 == c.args.region) (is_told c.args.cut.now c.args.l here.place.0) (eq-eqb _ _ (sym c.owner.ensures.owner ∙ c.if-owner-region.true)) (sym c.tells.ensures ∙ c.if-tells.true))))

pub returns : goal.returns
returns c = sym (scan_is (is_told_of_own c.args.cut.now c.args.region c.args.l) c.args.key (events_of c.args.entries.now) ∙ (c.loop-i.invariant ∙ scan_end (is_told_of_own c.args.cut.now c.args.region c.args.l) c.args.key c.args.entries.now c.loop-i.i (omega arith)))
