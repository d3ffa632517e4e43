use Rattle.std.proofs.Common.{◌≡◌, true, sym, ap, ◌∙◌, subst, cond}
use Rattle.surf_kinds.specs.Keys.{is_before, below}
use Rattle.lattice.specs.Shape.{Shape}
use Rattle.timeline.specs.TimelineView.{events_of}
use Rattle.border.specs.Stacked.{stack_of}
use Rattle.warp_core.specs.Grounds.{ArePlaces, IsGround}
use Rattle.warp_core.specs.Regions.{part_of}
use Rattle.warp_core.specs.Parts.{Part}
use Rattle.warp_core.proofs.Machine.Runs.{led, events-below}
use Rattle.warp_core.proofs.Machine.Ground.{run_places, cut_ground}
use Rattle.warp_core.proofs.region.Region.roll_back.Goals as goal

pub take_back-requires-clause-places : goal.take_back-requires-clause-places
take_back-requires-clause-places c =
    let r = c.args.self.now in
    let w = c.requires.ground in
    subst (ArePlaces c.args.cut.now.lattice) (sym c.entries.ensures.entries)
    (subst (λ (l : Shape). ArePlaces l r.timeline.entries) w.1 (run_places w.0 w.2.2 r.surface r.timeline.entries w.2.3.lattice w.2.3.run))

pub back_to-requires : goal.back_to-requires
back_to-requires c =
    let r = c.args.self.now in
    let w = c.requires.ground in
    (w.2.2, led w.0 w.2.2 r.surface r.timeline.entries w.2.3.run)

pub returns-clause-part : goal.returns-clause-part
returns-clause-part c =
    let r = c.args.self.now in
    let early : is_before c.args.key r.clock ≡ true = sym c.is_before.ensures ∙ c.if-not-is_before.false in
    let events : events_of c.back_to.new.self.entries ≡ below c.args.key (events_of r.timeline.entries) = ap events_of c.back_to.ensures.entries ∙ events-below c.args.key r.timeline.entries in
    let cut : Part = record { timeline = below c.args.key (events_of r.timeline.entries); clock = c.args.key; stack = stack_of r.stacks } in
    let here : part_of (record r { surface = c.back_to.new.surface; timeline = c.back_to.new.self; clock = c.args.key; outboxes = c.take_back.new.outboxes }) ≡ cut = λ i. record { timeline = events i; clock = c.args.key; stack = stack_of r.stacks } in
    here ∙ sym (ap (λ b. record { timeline = cond b (below c.args.key (events_of r.timeline.entries)) (events_of r.timeline.entries); clock = cond b c.args.key r.clock; stack = stack_of r.stacks }) early)

pub returns-clause-ground : goal.returns-clause-ground
returns-clause-ground c n cells past base g =
    let r = c.args.self.now in
    subst (λ es. IsGround n cells past base es c.back_to.new.surface) (sym c.back_to.ensures.entries)
    (cut_ground n cells past base r.timeline.entries r.surface g c.args.key c.back_to.new.surface c.back_to.ensures.stood)
