-- The fractions that rates are.
use Rattle.std.specs.Prelude.{ℕ, ◌≤◌}
use Rattle.std.specs.Int.{IsGcd}

-- p / q
pub record Fraction : Type 0 where
  pub p : ℕ
  pub q : ℕ

-- a fraction in lowest terms, within the bounds of a rate; so zero is 0 / 1
pub record IsReduced (f : Fraction) : Type 0 where
  pub p_at_most : f.p ≤ 1000000000
  pub q_at_least : 1 ≤ f.q
  pub q_at_most : f.q ≤ 1000000000
  pub lowest : IsGcd f.p f.q 1
