use Rattle.lattice.proofs.Writes.{rewrite_length}
use Rattle.lattice.proofs.LawLemmas.{rewrite_other, rewrite_same, room_left, room_at}
use Rattle.lattice.proofs.laws.one_site_is_rewritten.Goals as goal

pub returns-clause-count : goal.returns-clause-count
returns-clause-count c = rewrite_length

pub returns-clause-other : goal.returns-clause-other
returns-clause-other c = rewrite_other

pub returns-clause-same : goal.returns-clause-same
returns-clause-same c = rewrite_same

pub returns-clause-room : goal.returns-clause-room
returns-clause-room c = room_left

pub returns-clause-enough : goal.returns-clause-enough
returns-clause-enough c = room_at
