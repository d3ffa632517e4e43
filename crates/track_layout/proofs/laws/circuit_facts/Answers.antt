use Rattle.std.proofs.Common.{arith}
use Rattle.track_layout.proofs.laws.circuit_facts.Goals as goal

pub returns-clause-some : goal.returns-clause-some
returns-clause-some c = let o = c.output_count-outputs.ensures.within 0 (omega (arith, c.output_count-outputs.ensures.at_least)) in omega (arith, o)
