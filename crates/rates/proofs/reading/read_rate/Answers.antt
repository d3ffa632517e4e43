use Rattle.std.proofs.Common.{rules, ◌≡◌, ◌/◌, arith, Some, None, Option, ap, ◌∙◌}
use Rattle.surf_kinds.specs.Rates.{Fraction}
use Rattle.rates.specs.Rates.{fraction_of, rate_of}
use Rattle.rates.proofs.Divisors.{divided}
use Rattle.rates.proofs.Lowest.{read_as}
use Rattle.rates.proofs.reading.read_rate.Goals as goal

pub returns-then-p-gt-LARGEST-clause-rate : goal.returns-then-p-gt-LARGEST-clause-rate
returns-then-p-gt-LARGEST-clause-rate c =
    let f = c.in_ok-fraction.fraction in
    let d = c.greatest_divisor-divisor in
    let none : Option Fraction = None in
    let value : none ≡ rate_of c.args.text.now = search rules in
    read_as c.args.text.now (record { p = f.numerator; q = f.denominator }) d.result (c.in_ok-fraction.ensures.value ∙ ap fraction_of c.trim.ensures) d.ensures.is d.ensures.gcd d.ensures.positive none value

pub invariant_of-result : goal.invariant_of-result
invariant_of-result c =
    let d = c.greatest_divisor-divisor in
    record {
      p_at_most = c.if-p-gt-LARGEST.false;
      q_at_least = omega arith;
      q_at_most = c.if-q-gt-LARGEST.false;
      lowest = divided c.in_ok-fraction.fraction.numerator c.in_ok-fraction.fraction.denominator d.result d.ensures.is d.ensures.positive;
    }

pub returns-clause-rate : goal.returns-clause-rate
returns-clause-rate c =
    let f = c.in_ok-fraction.fraction in
    let d = c.greatest_divisor-divisor in
    let r : Fraction = record { p = f.numerator / d.result; q = f.denominator / d.result } in
    let value : Some r ≡ rate_of c.args.text.now = search rules in
    read_as c.args.text.now (record { p = f.numerator; q = f.denominator }) d.result (c.in_ok-fraction.ensures.value ∙ ap fraction_of c.trim.ensures) d.ensures.is d.ensures.gcd d.ensures.positive (Some r) value

pub returns-clause-reduced : goal.returns-clause-reduced
returns-clause-reduced c = invariant_of-result c
