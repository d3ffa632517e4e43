use Rattle.std.proofs.Common.{arith}
use Rattle.fixed_log.proofs.Near.{same_bits}
use Rattle.fixed_log.proofs.fraction.Goals as goal

pub returns-then-left-2-clause-value : goal.returns-then-left-2-clause-value
returns-then-left-2-clause-value c =
    same_bits c.args.x c.estimate-bits.result.0 c.estimate-bits.result.1 c.requires c.ranges.x.fits c.estimate-bits.ensures.near (omega (arith, c.if-left.true)) (omega (arith, c.if-left-2.true))
