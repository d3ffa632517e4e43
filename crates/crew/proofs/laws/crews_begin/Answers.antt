use Rattle.crew.proofs.Begins.{crew_first, consistent_first}
use Rattle.crew.proofs.Cores.{moved_is, took_is}
use Rattle.crew.proofs.Present.{fronts}
use Rattle.crew.proofs.laws.crews_begin.Goals as goal

pub returns-clause-crew : goal.returns-clause-crew
returns-clause-crew c = crew_first

pub returns-clause-consistent : goal.returns-clause-consistent
returns-clause-consistent c = consistent_first
