use Rattle.rates.proofs.Divisors.{gcd_of-is}
use Rattle.std.proofs.Common.{sym}
use Rattle.rates.proofs.reading.greatest_divisor.Goals as goal

pub returns : goal.returns
returns c =
    let g = gcd_of-is c.args.a c.args.b c.common_divisor.result c.common_divisor.ensures c.requires in
    record { is = c.common_divisor.ensures; gcd = sym g.0; positive = g.1; at_most = g.2 }
