use Rattle.std.proofs.Common.{refl, sym, ◌∙◌, slice_set}
use Rattle.std.proofs.lemmas.List.{length-set}
use Rattle.std.proofs.lemmas.Result.{err_from_is_err_and}
use Rattle.warp_core.specs.Configs.{core_with}
use Rattle.warp_core.specs.declared.step.Step.TheVariants.{Fire}
use Rattle.warp_core.proofs.Machine.Stepping.{kept_config, home_of, sized_here, alike_core, alike_homes, alike_consistent, known_here, place_here, entered_homes, fire_made, no_fire, some_region, made_consistent}
use Rattle.warp_core.proofs.config.Config.fire_entry.Goals as goal

pub owner-requires : goal.owner-requires
owner-requires c =
    let w = c.requires.next in
    let r = some_region c.args.self.now.regions.items c.args.region c.requires.region in
    place_here c.args.plan.now w.0 c.args.self.now c.args.region r.0 w.1 c.requires.region r.1 c.args.event w.2

pub returns-then-owner-region-clause-made : goal.returns-then-owner-region-clause-made
returns-then-owner-region-clause-made c s g next =
    let r = some_region c.args.self.now.regions.items c.args.region c.requires.region in
    (refl, no_fire c.args.plan.now s c.args.self.now c.args.region r.0 g c.requires.region r.1 c.args.event next (λ h. c.if-owner-region.true (c.owner.ensures.owner ∙ h)))

pub enter-requires-clause-ground : goal.enter-requires-clause-ground
enter-requires-clause-ground c =
    let w = c.requires.next in
    let h = home_of c.args.plan.now w.0 c.args.self.now c.args.region c.index_mut.result.now w.1 c.requires.region c.index_mut.ensures.value in
    (w.0.cells, h.past, h.base, h.ground, (known_here c.args.plan.now w.0 c.args.self.now c.args.region c.index_mut.result.now w.1 c.requires.region c.index_mut.ensures.value c.args.event w.2).below)

pub enter-requires-clause-fits : goal.enter-requires-clause-fits
enter-requires-clause-fits c =
    let w = c.requires.next in
    (known_here c.args.plan.now w.0 c.args.self.now c.args.region c.index_mut.result.now w.1 c.requires.region c.index_mut.ensures.value c.args.event w.2).fits

pub enter-requires-clause-timely : goal.enter-requires-clause-timely
enter-requires-clause-timely c =
    let w = c.requires.next in
    (known_here c.args.plan.now w.0 c.args.self.now c.args.region c.index_mut.result.now w.1 c.requires.region c.index_mut.ensures.value c.args.event w.2).timely

pub enter-requires-clause-small : goal.enter-requires-clause-small
enter-requires-clause-small c =
    let w = c.requires.next in
    (known_here c.args.plan.now w.0 c.args.self.now c.args.region c.index_mut.result.now w.1 c.requires.region c.index_mut.ensures.value c.args.event w.2).small

pub enter-requires-clause-place : goal.enter-requires-clause-place
enter-requires-clause-place c =
    let w = c.requires.next in
    place_here c.args.plan.now w.0 c.args.self.now c.args.region c.index_mut.result.now w.1 c.requires.region c.index_mut.ensures.value c.args.event w.2

pub enter-requires-clause-sized : goal.enter-requires-clause-sized
enter-requires-clause-sized c =
    let w = c.requires.next in
    sized_here c.args.plan.now w.0 c.args.self.now c.args.region c.index_mut.result.now w.1 c.requires.region c.index_mut.ensures.value

pub returns-in_err-enter-clause-made : goal.returns-in_err-enter-clause-made
returns-in_err-enter-clause-made c s g next =
    let now = c.args.self.now in
    let p = err_from_is_err_and c.from_residual.result c.from_residual.ensures.1 in
    rw p.1 (alike_core c.args.plan.now s now c.args.region c.index_mut.result.now g c.requires.region c.index_mut.ensures.value c.enter.new.self c.in_err-enter.ensures.err)

pub returns-in_err-enter-clause-kept : goal.returns-in_err-enter-clause-kept
returns-in_err-enter-clause-kept c s g next =
    let now = c.args.self.now in
    let i = c.args.region in
    let r = c.index_mut.result.now in
    let new = c.enter.new.self in
    kept_config c.args.plan.now s now _ g refl refl (length-set now.regions.items i new)
    (alike_consistent c.args.plan.now s now i r g c.requires.region c.index_mut.ensures.value new c.in_err-enter.ensures.err)
    (alike_homes c.args.plan.now s now i r g c.requires.region c.index_mut.ensures.value new c.in_err-enter.ensures.err)

pub returns-clause-made : goal.returns-clause-made
returns-clause-made c s g next =
    fire_made c.args.plan.now s c.args.self.now c.args.region c.index_mut.result.now g c.requires.region c.index_mut.ensures.value c.args.event next c.enter.new.self c.in_ok-enter.ensures.part c.in_ok-enter.ensures.told (sym c.owner.ensures.owner ∙ c.if-owner-region.false)

pub returns-clause-kept : goal.returns-clause-kept
returns-clause-kept c s g next =
    let now = c.args.self.now in
    let i = c.args.region in
    let r = c.index_mut.result.now in
    let new = c.enter.new.self in
    kept_config c.args.plan.now s now _ g refl refl (length-set now.regions.items i new)
    (made_consistent c.args.plan.now s now (Fire i) (core_with now.horizon now.committed.items (slice_set now.regions.items i new)) g
    (fire_made c.args.plan.now s now i r g c.requires.region c.index_mut.ensures.value c.args.event next new c.in_ok-enter.ensures.part c.in_ok-enter.ensures.told (sym c.owner.ensures.owner ∙ c.if-owner-region.false)))
    (entered_homes c.args.plan.now s now i r g c.requires.region c.index_mut.ensures.value c.args.event next new c.enter.ensures.ground c.enter.ensures.sized)
