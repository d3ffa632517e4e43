use Rattle.lattice.proofs.LawLemmas.{seven, last_at_most}
use Rattle.lattice.proofs.laws.seven_rewritings_a_tick.Goals as goal

pub returns-clause-versions : goal.returns-clause-versions
returns-clause-versions c = seven

pub returns-clause-lasts : goal.returns-clause-lasts
returns-clause-lasts c = last_at_most
