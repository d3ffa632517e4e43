use Rattle.std.proofs.Common.{arith}
use Rattle.surf_kinds.proofs.Fractions.{one_over_reduced}
use Rattle.crew.proofs.tests.one_over.Goals as goal

pub invariant_of-result : goal.invariant_of-result
invariant_of-result c = one_over_reduced c.args.q c.requires.0 (omega (arith, c.requires.1))
