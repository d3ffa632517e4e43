use Rattle.std.proofs.Common.{◌<◌, sym, subst, arith, slice_index_or}
use Rattle.region_run.specs.declared.region.Region.{Region}
use Rattle.region_run.specs.Runs.{HasSpare}
use Rattle.crew.specs.Crews.{CrewView}
use Rattle.crew.proofs.Ready.{may_step, step_one, step_ready, step_rest}
use Rattle.crew.proofs.crew.Crew.step.Goals as goal

pub step_in-requires-clause-inside : goal.step_in-requires-clause-inside
step_in-requires-clause-inside c = omega (arith, (subst (λ (v : CrewView). c.args.region < v.bands.count) (sym c.self.view_is) c.requires.inside), c.self.invariant.crew.count)

pub step_in-requires-clause-may : goal.step_in-requires-clause-may
step_in-requires-clause-may c = may_step _ c.self.invariant c.args.region (subst (λ (v : CrewView). c.args.region < v.bands.count) (sym c.self.view_is) c.requires.inside) (subst (λ (v : CrewView). (d : Region) → HasSpare 1 (slice_index_or v.regions c.args.region d)) (sym c.self.view_is) c.requires.spare)

pub invariant_of-self : goal.invariant_of-self
invariant_of-self c = step_ready _ c.self.invariant c.args.region c.step_in.new.regions.items c.step_in.ensures (subst (λ (v : CrewView). c.args.region < v.bands.count) (sym c.self.view_is) c.requires.inside)

pub returns-clause-rest : goal.returns-clause-rest
returns-clause-rest c = rw (← c.self.view_is) (step_rest _ c.self.invariant c.args.region c.step_in.new.regions.items c.step_in.ensures (subst (λ (v : CrewView). c.args.region < v.bands.count) (sym c.self.view_is) c.requires.inside))

pub returns-clause-one : goal.returns-clause-one
returns-clause-one c = rw (← c.self.view_is) (step_one _ c.self.invariant c.args.region c.step_in.new.regions.items c.step_in.ensures (subst (λ (v : CrewView). c.args.region < v.bands.count) (sym c.self.view_is) c.requires.inside))
