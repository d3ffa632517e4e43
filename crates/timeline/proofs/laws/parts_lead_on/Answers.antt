use Rattle.timeline.proofs.Leading.{parted, joined, pushed}
use Rattle.timeline.proofs.laws.parts_lead_on.Goals as goal

pub returns-clause-parted : goal.returns-clause-parted
returns-clause-parted c = parted

pub returns-clause-joined : goal.returns-clause-joined
returns-clause-joined c = joined

pub returns-clause-pushed : goal.returns-clause-pushed
returns-clause-pushed c = pushed
