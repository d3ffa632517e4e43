use Rattle.surf_kinds.proofs.Rising.{strictly, rises, parted}
use Rattle.surf_kinds.proofs.laws.events_are_parted_by_a_key.Goals as goal

pub returns-clause-all : goal.returns-clause-all
returns-clause-all c = rises

pub returns-clause-next : goal.returns-clause-next
returns-clause-next c = strictly

pub returns-clause-parted : goal.returns-clause-parted
returns-clause-parted c k es r = parted k es (rises es r)
