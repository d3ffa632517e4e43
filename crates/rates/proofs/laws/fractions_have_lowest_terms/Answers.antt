use Rattle.rates.proofs.Divisors.{gcd_of-is, power_positive, divided}
use Rattle.rates.proofs.laws.fractions_have_lowest_terms.Goals as goal

pub returns-clause-gcd : goal.returns-clause-gcd
returns-clause-gcd c = gcd_of-is

pub returns-clause-divided : goal.returns-clause-divided
returns-clause-divided c = divided

pub returns-clause-powers : goal.returns-clause-powers
returns-clause-powers c = power_positive
