use Rattle.crew.proofs.Working.{prepared_core, prepared_ready, prepared_rest}
use Rattle.crew.proofs.crew.Crew.prepare.Goals as goal

pub prepare_all-requires : goal.prepare_all-requires
prepare_all-requires c = c.self.invariant.at_most

pub invariant_of-self : goal.invariant_of-self
invariant_of-self c = prepared_ready _ c.self.invariant c.prepare_all.new.regions.items c.prepare_all.ensures.each

pub returns-clause-rest : goal.returns-clause-rest
returns-clause-rest c = rw (← c.self.view_is) (prepared_rest _ c.self.invariant c.prepare_all.new.regions.items c.prepare_all.ensures.each)

pub returns-clause-same : goal.returns-clause-same
returns-clause-same c = rw (← c.self.view_is) (prepared_core _ c.self.invariant c.prepare_all.new.regions.items c.prepare_all.ensures.each)

pub returns-clause-ok : goal.returns-clause-ok
returns-clause-ok c = c.prepare_all.ensures.ok
