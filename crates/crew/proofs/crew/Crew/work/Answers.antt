use Rattle.std.proofs.Common.{ℕ, ◌*◌, ◌<◌, List, length, sym, subst, refl, slice_index_or}
use Rattle.region_run.specs.declared.region.Region.{Region}
use Rattle.region_run.specs.Runs.{HasSpare}
use Rattle.crew.specs.Crews.{CrewView}
use Rattle.crew.proofs.Working.{may_turn, may_look_at, work_ready, have_worked}
use Rattle.crew.proofs.crew.Crew.work.Goals as goal

pub turn_all-requires-clause-at_least : goal.turn_all-requires-clause-at_least
turn_all-requires-clause-at_least g c κs lives = c.self.invariant.at_least

pub turn_all-requires-clause-at_most : goal.turn_all-requires-clause-at_most
turn_all-requires-clause-at_most g c κs lives = c.self.invariant.at_most

pub turn_all-requires-clause-may : goal.turn_all-requires-clause-may
turn_all-requires-clause-may g c κs lives =
    may_turn _ c.self.invariant (subst (λ (v : CrewView). (i : ℕ) (d : Region) → i < length v.regions → HasSpare (2 * v.quota) (slice_index_or v.regions i d)) (sym c.self.view_is) c.requires.spare)

pub look_at_all-requires : goal.look_at_all-requires
look_at_all-requires g c = may_look_at _ c.self.invariant c.turn_all.new.regions.items c.turn_all.ensures

pub invariant_of-self : goal.invariant_of-self
invariant_of-self g c = work_ready _ c.self.invariant c.turn_all.new.regions.items c.turn_all.ensures c.look_at_all.new.regions.items c.look_at_all.ensures.looked c.look_at_all.ensures.each

pub returns-clause-same : goal.returns-clause-same
returns-clause-same g c = rw (← c.self.view_is) refl

pub returns-clause-worked : goal.returns-clause-worked
returns-clause-worked g c = rw (← c.self.view_is) (have_worked _ c.self.invariant c.turn_all.new.regions.items c.turn_all.ensures c.look_at_all.new.regions.items c.look_at_all.ensures.looked c.look_at_all.ensures.each)
