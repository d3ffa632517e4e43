use Rattle.manifest_read.proofs.LawLemmas.{accepted-within, accepted-size}
use Rattle.manifest_read.proofs.laws.accepted_lines_are_within_limits.Goals as goal

pub returns-clause-within : goal.returns-clause-within
returns-clause-within c = accepted-within

pub returns-clause-size : goal.returns-clause-size
returns-clause-size c = accepted-size
