use Rattle.std.proofs.Common.{arith}
use Rattle.rates.proofs.Divisors.{power_positive, power_at_most}
use Rattle.rates.proofs.reading.power.Goals as goal

pub pow-requires : goal.pow-requires
pow-requires c = omega (arith, power_at_most c.args.k c.requires)

pub returns : goal.returns
returns c = record {
  value = c.pow.ensures;
  positive = omega (arith, c.pow.ensures, power_positive c.args.k);
  range = omega (arith, c.pow.ensures, power_at_most c.args.k c.requires);
}
