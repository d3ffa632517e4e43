use Rattle.one_engine.proofs.Settled.{first_settled, settled_after, settled_within, can_fire, leaves_products}
use Rattle.one_engine.proofs.laws.settled_surfaces_go_on.Goals as goal

pub returns-clause-first : goal.returns-clause-first
returns-clause-first c = first_settled

pub returns-clause-after : goal.returns-clause-after
returns-clause-after c = settled_after

pub returns-clause-within : goal.returns-clause-within
returns-clause-within c = settled_within

pub returns-clause-fires : goal.returns-clause-fires
returns-clause-fires c = can_fire

pub returns-clause-leaves : goal.returns-clause-leaves
returns-clause-leaves c = leaves_products
