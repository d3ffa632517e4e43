-- Rates in a text.
use Rattle.std.specs.Prelude.{◌≡◌, ◌≤◌, ℕ, zero, suc, ◌*◌, ◌/◌, ◌%◌, ◌^◌, ℤ, pos, negsuc, ◌&&◌, List, length, Option, Some, None, nat_le, ◌==◌, if◌then◌else◌}
use Rattle.std.specs.Int.{IsGcd}
use Rattle.std.specs.Option.{option_map, option_and_then}
use Rattle.surf_kinds.specs.Rates.{Fraction}
use Rattle.surf_text.specs.Cuts.{cut_at}
use Rattle.surf_text.specs.Lines.{trimmed}
use Rattle.surf_text.specs.Numbers.{u64_of}
use Rattle.surf_text.specs.Decimals.{decimal_of}

-- digits * 10 ^ exponent, over a power of ten where the exponent is below 0
abbrev pub scaled : ℕ → ℤ → Fraction
scaled digits (pos k) = record { p = digits * 10 ^ k; q = 1 }
scaled digits (negsuc k) = record { p = digits; q = 10 ^ suc k }

-- 1 to 18 digits
abbrev pub whole_of : List ℕ → Option ℕ
whole_of text = if nat_le (length text) 18 then u64_of text else None

-- one number over another that is not 0
abbrev pub over : Option ℕ → Option ℕ → Option Fraction
over (Some n) (Some d) = if d == 0 then None else Some (record { p = n; q = d })
over (Some n) None = None
over None d = None

-- a decimal where there is no slash, and else a whole number before the slash over one after it
abbrev pub by_slash : List ℕ → Option (List ℕ × List ℕ) → Option Fraction
by_slash text None = option_map (λ d. scaled d.digits d.exp) (decimal_of text)
by_slash text (Some p) = over (whole_of (trimmed p.0)) (whole_of (trimmed p.1))

-- the fraction that a trimmed text spells, as it is spelled; a slash is the byte 47
abbrev pub fraction_of : List ℕ → Option Fraction
fraction_of text = by_slash text (cut_at 47 text)

-- r is f in lowest terms: both numbers divided by their greatest common divisor
pub record IsLowest (f r : Fraction) : Type 0 where
  pub divisor : ℕ
  pub greatest : IsGcd f.p f.q divisor
  pub numerator : r.p * divisor ≡ f.p
  pub denominator : r.q * divisor ≡ f.q

-- the text is trimmed, and then spells a fraction of which the lowest terms are at most 10 ^ 9
pub record IsRate (text : List ℕ) (r : Fraction) : Type 0 where
  pub fraction : Fraction
  pub spelled : fraction_of (trimmed text) ≡ Some fraction
  pub lowest : IsLowest fraction r
  pub p_at_most : r.p ≤ 1000000000
  pub q_at_most : r.q ≤ 1000000000

-- the greatest number up to k that divides a and b
unfoldable pub gcd_below : ℕ → ℕ → ℕ → ℕ
gcd_below zero a b = 0
gcd_below (suc k) a b = if a % suc k == 0 && b % suc k == 0 then suc k else gcd_below k a b

-- the greatest common divisor, for b above 0
unfoldable pub gcd_of : ℕ → ℕ → ℕ
gcd_of a b = gcd_below b a b

-- p / q, where both are at most 10 ^ 9
abbrev pub bounded : ℕ → ℕ → Option Fraction
bounded p q = if nat_le p 1000000000 && nat_le q 1000000000 then Some (record { p = p; q = q }) else None

abbrev pub reduced : Fraction → Option Fraction
reduced f = bounded (f.p / gcd_of f.p f.q) (f.q / gcd_of f.p f.q)

-- the rate that a text spells
abbrev pub rate_of : List ℕ → Option Fraction
rate_of text = option_and_then reduced (fraction_of (trimmed text))
