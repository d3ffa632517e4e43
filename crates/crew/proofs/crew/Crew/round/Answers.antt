use Rattle.std.proofs.Common.{◌≡◌, ◌∙◌, ℕ, List, sym, ap, subst, map}
use Rattle.surf_kinds.specs.declared.event.Key.{Key}
use Rattle.surf_kinds.specs.Keys.{◌is_below◌}
use Rattle.warp_core.specs.World.{World, end_key}
use Rattle.warp_core.specs.Cores.{Core, IsConsistent}
use Rattle.region_run.specs.declared.totals.Turn.{Turn}
use Rattle.crew.specs.Crews.{CrewView, world_in, core_in, rest_of, turns_of}
use Rattle.crew.specs.Rounds.{HaveWorked}
use Rattle.crew.proofs.Ready.{rest_world}
use Rattle.crew.proofs.Rounding.{before_end, worked_between, front_of}
use Rattle.crew.proofs.crew.Crew.round.Goals as goal

pub returns-in_err-prepare-clause-consistent : goal.returns-in_err-prepare-clause-consistent
returns-in_err-prepare-clause-consistent g c =
    subst (λ w. IsConsistent w (core_in c.prepare.new.self)) (sym (rest_world c.prepare.new.self c.args.self.now c.prepare.ensures.rest)) (subst (λ (k : Core). IsConsistent (world_in c.args.self.now) k) (sym c.prepare.ensures.same) c.is_a_world.ensures.good)

pub commit-requires-clause-unfinished : goal.commit-requires-clause-unfinished
commit-requires-clause-unfinished g c =
    let front = front_of c.args.self.now c.prepare.new.self c.work.new.self c.settle.new.self c.in_ok-prepare.ensures.rest c.work.ensures.same c.in_ok-settle.ensures.rest in
    subst (λ (v : CrewView). v.horizon ≡ end_key (world_in v) → ⊥) (sym front) c.requires.unfinished

pub returns-clause-later : goal.returns-clause-later
returns-clause-later g c =
    let front = front_of c.args.self.now c.prepare.new.self c.work.new.self c.settle.new.self c.in_ok-prepare.ensures.rest c.work.ensures.same c.in_ok-settle.ensures.rest in
    subst (λ (k : Key). k is_below c.commit.new.self.horizon) (ap (λ (v : CrewView). v.horizon) front)
    (c.in_ok-events.ensures.later (subst (λ (v : CrewView). v.horizon is_below end_key (world_in v)) (sym front) (before_end (world_in c.args.self.now) (core_in c.args.self.now) c.is_a_world.ensures.world c.is_a_world.ensures.good c.requires.unfinished)))

pub returns-clause-turns : goal.returns-clause-turns
returns-clause-turns g c =
    subst (λ q. HaveWorked q c.args.self.now.regions c.commit.new.self.regions) (ap (λ (p : CrewView × List (ℕ × Turn)). p.0.quota) c.in_ok-prepare.ensures.rest)
    (worked_between c.prepare.new.self.quota c.args.self.now.regions c.prepare.new.self.regions c.work.new.self.regions c.commit.new.self.regions (ap (λ (p : CrewView × List (ℕ × Turn)). p.1) c.in_ok-prepare.ensures.rest) c.work.ensures.worked
    (ap (λ (p : CrewView × List (ℕ × Turn)). p.1) c.in_ok-events.ensures.counted ∙ ap (λ (p : CrewView × List (ℕ × Turn)). p.1) c.in_ok-settle.ensures.rest))
