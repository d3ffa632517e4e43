-- The rate that is read is the one of the relation.
use Rattle.std.proofs.Common.{◌≡◌, ℕ, ◌*◌, ◌/◌, ◌<◌, ◌≤◌, Bool, true, false, cond, ◌&&◌, List, Option, None, Some, refl, sym, ap, ◌∙◌, ◌↔◌, arith, nat_le, subst}
use Rattle.std.specs.Int.{IsGcd}
use Rattle.std.specs.Option.{option_and_then}
use Rattle.std.proofs.lemmas.Bool.Decides.{nat_tests}
use Rattle.std.proofs.lemmas.Option.{same_Some}
use Rattle.std.proofs.lemmas.Nat.Gcd.{same_from_IsGcd}
use Rattle.std.proofs.Math.Nat.{div-mul_cancel, mul-div_cancel}
use Rattle.surf_kinds.specs.Rates.{Fraction}
use Rattle.surf_text.specs.Lines.{trimmed}
use Rattle.rates.specs.Rates.{fraction_of, gcd_of, bounded, reduced, rate_of, IsLowest, IsRate}

within_parts : (p q : ℕ) → (nat_le p 1000000000 && nat_le q 1000000000) ≡ true → (p ≤ 1000000000) × (q ≤ 1000000000)
within_parts p q h = (grind (arith, nat_tests), grind (arith, nat_tests))

within_both : (p q : ℕ) → p ≤ 1000000000 → q ≤ 1000000000 → (nat_le p 1000000000 && nat_le q 1000000000) ≡ true
within_both p q h g = grind (arith, nat_tests)

-- a rate within the bounds
record IsBounded (p q : ℕ) (r : Fraction) : Type 0 where
  same : record { p = p; q = q } ≡ r
  p_at_most : p ≤ 1000000000
  q_at_most : q ≤ 1000000000

bounded-sound : (p q : ℕ) (r : Fraction) → bounded p q ≡ Some r → IsBounded p q r
bounded-sound p q r h = by (nat_le p 1000000000 && nat_le q 1000000000) refl h
  where
    by : (b : Bool) → (nat_le p 1000000000 && nat_le q 1000000000) ≡ b → cond b (Some (record { p = p; q = q })) None ≡ Some r → IsBounded p q r
    by true e g = record { same = cc; p_at_most = (within_parts p q e).0; q_at_most = (within_parts p q e).1 }
    by false e g = absurd cc

bounded-complete : (p q : ℕ) → p ≤ 1000000000 → q ≤ 1000000000 → bounded p q ≡ Some (record { p = p; q = q })
bounded-complete p q h g = ap (λ b. cond b (Some (record { p = p; q = q })) None) (within_both p q h g)

-- a fraction divided by its greatest common divisor is in lowest terms, and nothing else is
divided-lowest : (f r : Fraction) (g : ℕ) → IsGcd f.p f.q g → record { p = f.p / g; q = f.q / g } ≡ r → IsLowest f r
divided-lowest f r g h e = record {
  divisor = g;
  greatest = h;
  numerator = rw (← e) (div-mul_cancel g h.0);
  denominator = rw (← e) (div-mul_cancel g h.1);
}

quotient : (r g n : ℕ) → 0 < g → r * g ≡ n → r ≡ n / g
quotient r g n h e = sym (mul-div_cancel r h) ∙ ap (λ m. m / g) e

lowest-divided : (f r : Fraction) (g : ℕ) → IsGcd f.p f.q g → 0 < g → IsLowest f r → (r.p ≡ f.p / g) × (r.q ≡ f.q / g)
lowest-divided f r g h positive l =
    let same : l.divisor ≡ g = same_from_IsGcd f.p f.q l.divisor g l.greatest h in
    (quotient r.p g f.p positive (ap (λ k. r.p * k) (sym same) ∙ l.numerator), quotient r.q g f.q positive (ap (λ k. r.q * k) (sym same) ∙ l.denominator))

rate_is : (text : List ℕ) (f : Fraction) (g : ℕ) → fraction_of (trimmed text) ≡ Some f → g ≡ gcd_of f.p f.q → rate_of text ≡ bounded (f.p / g) (f.q / g)
rate_is text f g e h = ap (option_and_then reduced) e ∙ ap (λ k. bounded (f.p / k) (f.q / k)) (sym h)

-- where the text spells a fraction
pub read_as : (text : List ℕ) (f : Fraction) (g : ℕ) → Some f ≡ fraction_of (trimmed text) → IsGcd f.p f.q g → g ≡ gcd_of f.p f.q → 0 < g
    → (o : Option Fraction) → o ≡ rate_of text → (r : Fraction) → (o ≡ Some r) ↔ IsRate text r
read_as text f g e h same positive o v r = (λ s. sound (sym by_bounds ∙ s), λ s. complete s)
  where
    by_bounds : o ≡ bounded (f.p / g) (f.q / g)
    by_bounds = v ∙ rate_is text f g (sym e) same

    sound : bounded (f.p / g) (f.q / g) ≡ Some r → IsRate text r
    sound s =
        let b = bounded-sound (f.p / g) (f.q / g) r s in
        record {
          fraction = f;
          spelled = sym e;
          lowest = divided-lowest f r g h b.same;
          p_at_most = rw (← b.same) b.p_at_most;
          q_at_most = rw (← b.same) b.q_at_most;
        }

    spelled : (f' : Fraction) → fraction_of (trimmed text) ≡ Some f' → f' ≡ f
    spelled f' k = same_Some f' f (sym k ∙ sym e)

    complete : IsRate text r → o ≡ Some r
    complete s =
        let l : IsLowest f r = subst (λ x. IsLowest x r) (spelled s.fraction s.spelled) s.lowest in
        let d = lowest-divided f r g h positive l in
        by_bounds ∙ ap (λ p. bounded p (f.q / g)) (sym d.0) ∙ ap (λ q. bounded r.p q) (sym d.1) ∙ bounded-complete r.p r.q s.p_at_most s.q_at_most
