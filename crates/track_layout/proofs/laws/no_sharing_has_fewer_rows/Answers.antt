use Rattle.track_layout.proofs.Crowds.{crowd_is, no_fewer}
use Rattle.track_layout.proofs.laws.no_sharing_has_fewer_rows.Goals as goal

pub returns-clause-exactly : goal.returns-clause-exactly
returns-clause-exactly c tracks count n are lt last = crowd_is c.args.circuit.now tracks count n c.circuit_facts.ensures.nets are lt last

pub returns-clause-fewest : goal.returns-clause-fewest
returns-clause-fewest c tracks count n are lt last rows row shared = no_fewer c.args.circuit.now tracks count n c.circuit_facts.ensures.nets are lt last rows row shared
