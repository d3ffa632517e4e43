use Rattle.std.proofs.Common.{◌≡◌, ◌<◌, sym, subst, arith, true, slice_index_or}
use Rattle.region_run.specs.declared.region.Region.{Region}
use Rattle.region_run.specs.Runs.{HasSpare}
use Rattle.crew.specs.Crews.{CrewView}
use Rattle.crew.proofs.Ready.{may_give, give_done, give_none, give_ready, give_rest}
use Rattle.crew.proofs.crew.Crew.give.Goals as goal

pub deliver_in-requires-clause-from : goal.deliver_in-requires-clause-from
deliver_in-requires-clause-from c = omega (arith, (subst (λ (v : CrewView). c.args.from < v.bands.count) (sym c.self.view_is) c.requires.inside.0), c.self.invariant.crew.count)

pub deliver_in-requires-clause-to : goal.deliver_in-requires-clause-to
deliver_in-requires-clause-to c = omega (arith, (subst (λ (v : CrewView). c.args.to < v.bands.count) (sym c.self.view_is) c.requires.inside.1), c.self.invariant.crew.count)

pub deliver_in-requires-clause-may : goal.deliver_in-requires-clause-may
deliver_in-requires-clause-may c =
    may_give _ c.self.invariant c.args.from c.args.to (subst (λ (v : CrewView). c.args.from < v.bands.count) (sym c.self.view_is) c.requires.inside.0) (subst (λ (v : CrewView). c.args.to < v.bands.count) (sym c.self.view_is) c.requires.inside.1) c.requires.inside.2 (subst (λ (v : CrewView). (d : Region) → HasSpare 1 (slice_index_or v.regions c.args.to d)) (sym c.self.view_is) c.requires.spare)

pub invariant_of-self : goal.invariant_of-self
invariant_of-self c = give_ready _ c.self.invariant c.args.from c.args.to c.deliver_in.result c.deliver_in.new.regions.items c.deliver_in.ensures (subst (λ (v : CrewView). c.args.from < v.bands.count) (sym c.self.view_is) c.requires.inside.0) (subst (λ (v : CrewView). c.args.to < v.bands.count) (sym c.self.view_is) c.requires.inside.1) c.requires.inside.2

pub returns-clause-rest : goal.returns-clause-rest
returns-clause-rest c = rw (← c.self.view_is) (give_rest _ c.self.invariant c.args.from c.args.to c.deliver_in.result c.deliver_in.new.regions.items c.deliver_in.ensures (subst (λ (v : CrewView). c.args.from < v.bands.count) (sym c.self.view_is) c.requires.inside.0) (subst (λ (v : CrewView). c.args.to < v.bands.count) (sym c.self.view_is) c.requires.inside.1) c.requires.inside.2)

pub returns-clause-done : goal.returns-clause-done
returns-clause-done c = rw (← c.self.view_is) (give_done _ c.self.invariant c.args.from c.args.to c.deliver_in.result c.deliver_in.new.regions.items c.deliver_in.ensures (subst (λ (v : CrewView). c.args.from < v.bands.count) (sym c.self.view_is) c.requires.inside.0) (subst (λ (v : CrewView). c.args.to < v.bands.count) (sym c.self.view_is) c.requires.inside.1) c.requires.inside.2)

pub returns-clause-not_now : goal.returns-clause-not_now
returns-clause-not_now c = rw (← c.self.view_is) (give_none _ c.self.invariant c.args.from c.args.to c.deliver_in.result c.deliver_in.new.regions.items c.deliver_in.ensures (subst (λ (v : CrewView). c.args.from < v.bands.count) (sym c.self.view_is) c.requires.inside.0) (subst (λ (v : CrewView). c.args.to < v.bands.count) (sym c.self.view_is) c.requires.inside.1) c.requires.inside.2)
