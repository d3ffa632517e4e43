use Rattle.std.proofs.Common.{◌+◌, refl, inl, inr, arith}
use Rattle.warp_core.specs.Parts.{PartStep}
use Rattle.region_run.proofs.Applies.{ended}
use Rattle.region_run.proofs.Spares.{side_gained, side_self, less}
use Rattle.region_run.proofs.region.Region.step.Goals as goal

pub next_entry-requires : goal.next_entry-requires
next_entry-requires c = c.requires.region.1.two

pub apply_next-requires-clause-next : goal.apply_next-requires-clause-next
apply_next-requires-clause-next c =
    let w = c.requires.region in
    (w.0, w.1, c.in-Some.ensures.some c.args.plan.now c.args.cut.now w.0 w.1)

pub returns-in-None-clause-steps : goal.returns-in-None-clause-steps
returns-in-None-clause-steps c x g =
    let none = c.in-None.ensures.none c.args.plan.now c.args.cut.now x g in
    (ended c.args.plan.now c.args.cut.now c.args.until x c.args.self.now g none, none, refl)

pub returns-in-None-clause-rings : goal.returns-in-None-clause-rings
returns-in-None-clause-rings c = (side_self c.args.self.now.first, side_self c.args.self.now.second)

pub returns-in-None-clause-spare : goal.returns-in-None-clause-spare
returns-in-None-clause-spare c m h =
    let s = less (m + 1) m c.args.self.now (omega arith) h in
    record { timeline = s.timeline; changes = s.changes; stacks = s.stacks; first = s.first; second = s.second }

pub returns-in-Some-clause-steps : goal.returns-in-Some-clause-steps
returns-in-Some-clause-steps c x g =
    elim (c.apply_next.ensures.steps x g (c.in-Some.ensures.some c.args.plan.now c.args.cut.now x g)) [
      | inl s ↦ (PartStep.Fires c.in-Some.event, s, inl (c.in-Some.event, refl))
      | inr s ↦ (PartStep.Passes c.in-Some.event, s, inr (c.in-Some.event, refl))
    ]

pub returns-in-Some-clause-rings : goal.returns-in-Some-clause-rings
returns-in-Some-clause-rings c = (side_gained _ _ _ c.apply_next.ensures.first, side_gained _ _ _ c.apply_next.ensures.second)
