use Rattle.std.proofs.Common.{List, length, drop, ◌≡◌, ◌∙◌, sym, subst}
use Rattle.std.proofs.lemmas.List.{take_at}
use Rattle.region_run.specs.declared.region.Region.{Region}
use Rattle.crew.specs.Rounds.{AreFirstRegions}
use Rattle.crew.specs.Rings.{AreMade}
use Rattle.crew.proofs.NewRings.{none_joined, all_first}
use Rattle.crew.proofs.making.regions_of.Goals as goal

pub join_all-requires-clause-joined : goal.join_all-requires-clause-joined
join_all-requires-clause-joined c =
    let made : AreMade c.args.plan.now c.args.cut.now c.args.start.now c.args.cut.now.count c.as_mut_slice.result.now = rw c.as_mut_slice.ensures.value c.in_ok-regions.ensures in
    none_joined c.args.plan.now c.args.cut.now c.args.start.now c.args.slots c.as_mut_slice.result.now made

pub returns-clause-first : goal.returns-clause-first
returns-clause-first c =
    let made : AreMade c.args.plan.now c.args.cut.now c.args.start.now c.args.cut.now.count c.as_mut_slice.result.now = rw c.as_mut_slice.ensures.value c.in_ok-regions.ensures in
    let as_many : length c.join_all.new.regions ≡ c.in_ok-regions.regions.len = c.in_ok-join_all.ensures.joined.count ∙ sym c.in_ok-regions.ensures.count ∙ sym c.in_ok-regions.regions.ok.0 in
    subst (λ (rs : List Region). AreFirstRegions c.args.plan.now c.args.cut.now c.args.start.now rs) (sym (take_at c.join_all.new.regions (drop (length c.join_all.new.regions) c.in_ok-regions.regions.items) c.in_ok-regions.regions.len as_many))
    (all_first c.args.plan.now c.args.cut.now c.args.start.now c.args.slots c.as_mut_slice.result.now made c.join_all.new.regions c.in_ok-join_all.ensures.joined c.in_ok-join_all.ensures.first)
