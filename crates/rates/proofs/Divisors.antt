-- The greatest common divisor, and what dividing by it gives.
use Rattle.std.proofs.Common.{◌≡◌, ℕ, zero, suc, ◌*◌, ◌/◌, ◌%◌, ◌<◌, ◌≤◌, Bool, true, false, cond, ◌&&◌, ◌==◌, ap, ◌∙◌, lit≤, arith, inl, inr, subst}
use Prim.Native.Nat.{◌∣◌}
use Rattle.std.specs.Int.{IsGcd}
use Rattle.std.proofs.lemmas.Bool.{cases_Bool}
use Rattle.std.proofs.lemmas.Bool.Decides.{nat_tests}
use Rattle.std.proofs.lemmas.Nat.Gcd.{le_from_IsGcd, dvd_of_mod-eq-zero, mod-eq-zero_of_dvd, le_of_dvd}
use Rattle.std.proofs.Math.Nat.{eq-zero_of_zero-dvd, pow-le-pow_right, mul-le-mul_left, div-mul_cancel, mul-dvd-mul_right, dvd_of_mul-dvd-mul_right, one-dvd}
use Rattle.std.specs.Prelude.{◌^◌}
use Rattle.rates.specs.Rates.{gcd_below, gcd_of}

abbrev common_test : ℕ → ℕ → ℕ → Bool
common_test k a b = a % k == 0 && b % k == 0

test_true : (k a b : ℕ) → common_test k a b ≡ true → (a % k ≡ 0) × (b % k ≡ 0)
test_true k a b h = (grind (arith, nat_tests), grind (arith, nat_tests))

test_of : (k a b : ℕ) → a % k ≡ 0 → b % k ≡ 0 → common_test k a b ≡ true
test_of k a b h g = grind (arith, nat_tests)

gcd_below-is : (k a b g : ℕ) → IsGcd a b g → 0 < g → g ≤ k → gcd_below k a b ≡ g
unfolding gcd_below
gcd_below-is zero a b g h p l = absurd (omega arith)
gcd_below-is (suc k) a b g h p l =
    elim (cases_Bool (common_test (suc k) a b)) [
      | inl passed ↦
          (let parts = test_true (suc k) a b passed in
          let le : suc k ≤ g = le_from_IsGcd a b g (suc k) h p (dvd_of_mod-eq-zero (suc k) parts.0) (dvd_of_mod-eq-zero (suc k) parts.1) in
          ap (λ t. cond t (suc k) (gcd_below k a b)) passed ∙ (let e : suc k ≡ g = omega arith in e))
      | inr failed ↦ ap (λ t. cond t (suc k) (gcd_below k a b)) failed ∙ gcd_below-is k a b g h p (smaller k g l (other failed))
    ]
  where
    other : common_test (suc k) a b ≡ false → suc k ≡ g → ⊥
    other failed same =
        let passes : common_test (suc k) a b ≡ true
        = test_of (suc k) a b (rw same (mod-eq-zero_of_dvd g h.0)) (rw same (mod-eq-zero_of_dvd g h.1)) in
        cc

    smaller : (s g : ℕ) → g ≤ suc s → (suc s ≡ g → ⊥) → g ≤ s
    smaller s g l n = omega arith

not_zero_of : (b : ℕ) → 0 < b → (g : ℕ) → g ∣ b → 0 < g
not_zero_of b p zero h = let e : b ≡ zero = eq-zero_of_zero-dvd h in omega arith
not_zero_of b p (suc g) h = omega arith

pub gcd_of-is : (a b g : ℕ) → IsGcd a b g → 0 < b → (gcd_of a b ≡ g) × (0 < g) × (g ≤ b)
unfolding gcd_of
gcd_of-is a b g h p =
    let le : g ≤ b = le_of_dvd p h.1 in
    let positive : 0 < g = not_zero_of b p g h.1 in
    (gcd_below-is b a b g h positive le, positive, le)

pub power_positive : (k : ℕ) → 0 < 10 ^ k
power_positive k = let h : 10 ^ 0 ≤ 10 ^ k = pow-le-pow_right {n = 10} (lit≤ tt) {i = 0} {j = k} (omega arith) in omega (arith, h)

-- digits times a power of an exponent of at most 9
pub small_product : (digits k : ℕ) → digits < 10 ^ 18 → k ≤ 9 → digits * 10 ^ k < 10 ^ 27
small_product digits k h l =
    let power : 10 ^ k ≤ 10 ^ 9 = pow-le-pow_right {n = 10} (lit≤ tt) {i = k} {j = 9} l in
    let product : digits * 10 ^ k ≤ digits * 10 ^ 9 = mul-le-mul_left digits power in
    omega (arith, product)

pub power_at_most : (k : ℕ) → k ≤ 27 → 10 ^ k ≤ 10 ^ 27
power_at_most k h = pow-le-pow_right {n = 10} (lit≤ tt) {i = k} {j = 27} h

-- divided by their greatest common divisor, two numbers have no other than 1
pub divided : (n d g : ℕ) → IsGcd n d g → 0 < g → IsGcd (n / g) (d / g) 1
divided n d g h positive =
    let a : n / g * g ≡ n = div-mul_cancel g h.0 in
    let b : d / g * g ≡ d = div-mul_cancel g h.1 in
    (one-dvd (n / g), one-dvd (d / g), λ k p q. dvd_of_mul-dvd-mul_right k positive (single (k * g) g (h.2 (k * g) (along k (n / g) g n p a) (along k (d / g) g d q b))))
  where
    along : (k p g n : ℕ) → k ∣ p → p * g ≡ n → k * g ∣ n
    along k p g n h e = subst (λ (m : ℕ). k * g ∣ m) e (mul-dvd-mul_right k h g)

    single : (m g : ℕ) → m ∣ g → m ∣ 1 * g
    single m g h = let e : g ≡ 1 * g = omega arith in subst (λ (x : ℕ). m ∣ x) e h
