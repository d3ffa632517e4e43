use Rattle.std.proofs.Common.{◌≡◌, ◌+◌, refl, slice_set, arith}
use Rattle.std.proofs.lemmas.List.{length-set}
use Rattle.border.specs.Stacked.{stack_of}
use Rattle.timeline.specs.TimelineView.{events_of}
use Rattle.plan.specs.Network.{Network}
use Rattle.warp_core.specs.Simulation.{Setting, world_in}
use Rattle.warp_core.specs.Parts.{at_end}
use Rattle.warp_core.specs.Regions.{part_of}
use Rattle.warp_core.specs.Configs.{core_with, IsConfigOf}
use Rattle.warp_core.specs.declared.region.Region.{Region}
use Rattle.warp_core.specs.declared.config.Config.{Config}
use Rattle.warp_core.specs.declared.step.Step.TheVariants.{Pass}
use Rattle.warp_core.proofs.Machine.Stepping.{kept_config, sized_here, keeps_homes, end_made, made_consistent}
use Rattle.warp_core.proofs.config.Config.pass.Goals as goal

pub overflow_add-self : goal.overflow_add-self
overflow_add-self c = let w = c.requires.config in omega (arith, w.1.until, w.1.setting.short)

pub end_part : (n : Network) (s : Setting) (c : Config) (r : Region) → IsConfigOf n s c → part_of (record r { clock = record { time = c.until + 1; place = record { 0 = 0 } } }) ≡ at_end (world_in n s) (part_of r)
end_part n s c r g = λ i. record { timeline = events_of r.timeline.entries; clock = record { time = g.until i + 1; place = record { 0 = 0 } }; stack = stack_of r.stacks }

pub returns-in-None-clause-made : goal.returns-in-None-clause-made
returns-in-None-clause-made c s g =
    let now = c.args.self.now in
    let r = c.index_mut.result.now in
    end_made c.args.plan.now s now c.args.region r g c.requires.region c.index_mut.ensures.value (c.in-None.ensures.none s g) (record r { clock = record { time = now.until + 1; place = record { 0 = 0 } } }) (end_part c.args.plan.now s now r g) (λ l. refl)

pub returns-in-None-clause-kept : goal.returns-in-None-clause-kept
returns-in-None-clause-kept c s g =
    let now = c.args.self.now in
    let i = c.args.region in
    let r = c.index_mut.result.now in
    let new : Region = record r { clock = record { time = now.until + 1; place = record { 0 = 0 } } } in
    kept_config c.args.plan.now s now _ g refl refl (length-set now.regions.items i new)
    (made_consistent c.args.plan.now s now (Pass i) (core_with now.horizon now.committed.items (slice_set now.regions.items i new)) g
    (end_made c.args.plan.now s now i r g c.requires.region c.index_mut.ensures.value (c.in-None.ensures.none s g) new (end_part c.args.plan.now s now r g) (λ l. refl)))
    (keeps_homes c.args.plan.now s now i r g c.requires.region c.index_mut.ensures.value new (λ cells past base gr. gr) (let z = sized_here c.args.plan.now s now i r g c.requires.region c.index_mut.ensures.value in record { stacks = z.stacks; outboxes = z.outboxes }))

pub pass_entry-requires-clause-next : goal.pass_entry-requires-clause-next
pass_entry-requires-clause-next c = let w = c.requires.config in (w.0, w.1, c.in-Some.ensures.some w.0 w.1)

pub returns-in-Some-clause-made : goal.returns-in-Some-clause-made
returns-in-Some-clause-made c s g = c.pass_entry.ensures.made s g (c.in-Some.ensures.some s g)

pub returns-in-Some-clause-kept : goal.returns-in-Some-clause-kept
returns-in-Some-clause-kept c s g = c.pass_entry.ensures.kept s g (c.in-Some.ensures.some s g)
