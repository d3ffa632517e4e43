use Rattle.std.proofs.Common.{◌≤◌, subst}
use Rattle.regions.proofs.LawLemmas.{owner_below}
use Rattle.region_run.proofs.Starting.{is_first, not_more}
use Rattle.region_run.proofs.region.Region.new.Goals as goal

pub returns : goal.returns
returns c =
    is_first c.args.plan.now c.args.cut.now c.args.id c.args.start.now c.in_ok-surface.surface _ c.in_ok-queue.queue c.places-range.result _ _ c.in_ok-stacks.stacks c.side_of.result c.side_of-2.result _ _ c.neighbours-neighbours.result.first c.neighbours-neighbours.result.second
    c.count.ensures.cut c.requires.id c.requires.cut c.requires.lattice c.requires.species c.requires.fresh c.in_ok-surface.ensures
    c.in_ok-queue.ensures.covers c.in_ok-queue.ensures.entries c.places-range.ensures.own (λ h. subst (λ k. k ≤ 1) c.count.ensures.count (not_more c.count.result h)) c.neighbours-neighbours.ensures
    (λ r p t. c.neighbours_are_told.ensures.told c.args.cut.now r p c.count.ensures.cut t) (λ r o h. c.neighbours_are_told.ensures.both c.args.cut.now r o c.count.ensures.cut h) (λ r o h. c.neighbours_are_told.ensures.below c.args.cut.now r o c.count.ensures.cut h)
    c.new-2.ensures c.new-3.ensures.items c.in_ok-stacks.ensures c.side_of.ensures c.side_of-2.ensures c.none.ensures (λ p. owner_below c.args.cut.now p c.count.ensures.cut)
