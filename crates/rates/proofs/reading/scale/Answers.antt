use Rattle.std.proofs.Common.{◌≤◌, arith}
use Rattle.std.proofs.lemmas.Int.{ints}
use Rattle.rates.proofs.Divisors.{small_product}
use Rattle.rates.proofs.reading.scale.Goals as goal

pub returns-else-dec-lt0-clause-range : goal.returns-else-dec-lt0-clause-range
returns-else-dec-lt0-clause-range c =
    let small : c.unsigned_abs-size.result ≤ 9 = omega (arith, ints) in
    rw (c.from-digits.ensures, c.power-else-dec-lt0.ensures.value) (small_product c.args.dec.digits c.unsigned_abs-size.result c.requires.0 small)
