use Rattle.warp_core.proofs.LawLemmas.{may_commit, handed_out, round_gives, round_moves}
use Rattle.warp_core.proofs.laws.a_settled_round_commits.Goals as goal

pub returns-clause-may : goal.returns-clause-may
returns-clause-may c = may_commit

pub returns-clause-handed : goal.returns-clause-handed
returns-clause-handed c = handed_out

pub returns-clause-some : goal.returns-clause-some
returns-clause-some c = round_gives

pub returns-clause-moves : goal.returns-clause-moves
returns-clause-moves c = round_moves
