-- The squarings: where x stays, what the bits spell, and how the power is held between two bounds.
use Rattle.std.proofs.Common.{add-one, lit≤, ◌≡◌, ℕ, zero, suc, ◌+◌, ◌-◌, ◌*◌, ◌/◌, ◌^◌, ◌<◌, ◌≤◌, inl, inr, refl, sym, ap, ◌∙◌, arith}
use Rattle.std.proofs.Math.Nat.{pow-le-pow_right, pow-suc}
use Rattle.std.proofs.lemmas.Nat.{shl-shr, pow_pos, pow-add, mul-le, mul-lt, le-div, div_below}
use Rattle.std.proofs.lemmas.Bool.{cases_lt}
use Rattle.std.proofs.lemmas.Bool.Decides.{nat_tests}
use Rattle.fixed_log.specs.Log.{floor_log_below, next_bit, next_x, x_after, bits_after, whole_log}

-- the greatest power is the one between whose double m lies
pub floor_log-is : (k m n : ℕ) → n ≤ k → 2 ^ n ≤ m → m < 2 * 2 ^ n → floor_log_below k m ≡ n
unfolding floor_log_below
floor_log-is zero m n h p q = omega arith
floor_log-is (suc k) m n h p q =
    elim (cases_lt n (suc k)) [
      | inl below ↦
          (let less : 2 * 2 ^ n ≤ 2 ^ suc k = omega (arith, pow-le-pow_right {n = 2} (lit≤ tt) {i = suc n} {j = suc k} below, pow-suc 2 n) in
          grind (arith, nat_tests, floor_log-is k m n))
      | inr above ↦
          (let same : n ≡ suc k = omega arith in
          let power : 2 ^ suc k ≡ 2 ^ n = ap (λ i. 2 ^ i) (sym same) in
          grind (arith, nat_tests))
    ]

square-low : (x : ℕ) → 2 ^ 63 ≤ x → 2 ^ 126 ≤ x * x
square-low x h = mul-le _ _ _ _ h h

square-high : (x : ℕ) → x < 2 ^ 64 → x * x < 2 ^ 128
square-high x h = mul-lt _ _ _ _ h h

-- a square of x in its range gives an x in its range
pub next_x-low : (x : ℕ) → 2 ^ 63 ≤ x → x < 2 ^ 64 → 2 ^ 63 ≤ next_x x
next_x-low x h p = grind (arith, nat_tests, square-low x h)

pub next_x-high : (x : ℕ) → 2 ^ 63 ≤ x → x < 2 ^ 64 → next_x x < 2 ^ 64
next_x-high x h p = grind (arith, nat_tests, square-high x p)

pub x_after-within : (x k : ℕ) → 2 ^ 63 ≤ x → x < 2 ^ 64 → (2 ^ 63 ≤ x_after x k) × (x_after x k < 2 ^ 64)
unfolding x_after
x_after-within x zero h p = (h, p)
x_after-within x (suc k) h p =
    let before = x_after-within x k h p in
    (next_x-low _ before.0 before.1, next_x-high _ before.0 before.1)

next_bit-le : (x : ℕ) → next_bit x ≤ 1
next_bit-le x = grind (arith, nat_tests)

pub bits_after-below : (x k : ℕ) → bits_after x k < 2 ^ k
unfolding bits_after
bits_after-below x zero = omega arith
bits_after-below x (suc k) = omega (arith, bits_after-below x k, next_bit-le (x_after x k), pow-suc 2 k)

-- the first x: the whole part is at most 64, no bit is lost, and x is in its range
pub record Begins (m n x : ℕ) : Type 0 where
  pub whole_at_most : n ≤ 64
  pub whole_is : n ≡ whole_log m
  pub exact : x * 2 ^ n ≡ m * 2 ^ 63
  pub low : 2 ^ 63 ≤ x
  pub high : x < 2 ^ 64

whole-le : (m n : ℕ) → m ≤ 2 ^ 64 → 2 ^ n ≤ m → n ≤ 64
whole-le m n h p =
    elim (cases_lt 64 n) [
      | inl over ↦ absurd (omega (arith, pow-le-pow_right {n = 2} (lit≤ tt) {i = 65} {j = n} over))
      | inr within ↦ within
    ]

-- a multiple of a power is divided by it exactly
exact-below : (m n : ℕ) → n ≤ 63 → m * 2 ^ 63 / 2 ^ n * 2 ^ n ≡ m * 2 ^ 63
exact-below m n h =
    let parts : 2 ^ 63 ≡ 2 ^ (63 - n) * 2 ^ n = ap (λ i. 2 ^ i) (let e : 63 ≡ 63 - n + n = omega arith in e) ∙ pow-add 2 (63 - n) n in
    let whole : m * 2 ^ 63 ≡ m * 2 ^ (63 - n) * 2 ^ n = omega (arith, ap (λ i. m * i) parts) in
    let back : m * 2 ^ 63 / 2 ^ n ≡ m * 2 ^ (63 - n) = ap (λ i. i / 2 ^ n) whole ∙ shl-shr (m * 2 ^ (63 - n)) n in
    ap (λ i. i * 2 ^ n) back ∙ sym whole

exact_at : (m n : ℕ) → m ≤ 2 ^ 64 → 2 ^ n ≤ m → n ≤ 64 → m * 2 ^ 63 / 2 ^ n * 2 ^ n ≡ m * 2 ^ 63
exact_at m n h p q =
    elim (cases_lt n 64) [
      | inl below ↦ exact-below m n (omega arith)
      | inr above ↦
          (let top : n ≡ 64 = omega arith in
          let power : 2 ^ n ≡ 2 ^ 64 = ap (λ i. 2 ^ i) top in
          let most : m ≡ 2 ^ 64 = omega arith in
          rw (top, most) refl)
    ]

pub begins : (m n : ℕ) → 1 ≤ m → m ≤ 2 ^ 64 → 2 ^ n ≤ m → m < 2 * 2 ^ n → Begins m n (m * 2 ^ 63 / 2 ^ n)
begins m n one most power next =
    let within = whole-le m n most power in
    record {
      whole_at_most = within;
      whole_is = sym (floor_log-is 64 m n within power next);
      exact = exact_at m n most power within;
      low = le-div (2 ^ 63) (m * 2 ^ 63) (2 ^ n) (pow_pos n) (omega arith);
      high = div_below (m * 2 ^ 63) (2 ^ n) (2 ^ 64) (pow_pos n) (omega arith);
    }

-- what one turn of the loop makes of x and of the bits
pub record Turns (first k x bits : ℕ) : Type 0 where
  pub x_is : x ≡ x_after first (k + 1)
  pub bits_are : bits ≡ bits_after first (k + 1)
  pub low : 2 ^ 63 ≤ x
  pub high : x < 2 ^ 64
  pub bits_fit : bits < 2 ^ (k + 1)

pub turns : (first k x bits y bit : ℕ) → 2 ^ 63 ≤ x → x < 2 ^ 64
    → x ≡ x_after first k → bits ≡ bits_after first k → next_x x ≡ y → next_bit x ≡ bit
    → Turns first k y (2 * bits + bit)
unfolding x_after bits_after
turns first k x bits y bit low high x_is bits_are y_is bit_is =
    let bits_next : 2 * bits + bit ≡ bits_after first (k + 1)
    = rw add-one (omega (arith, bits_are, bit_is, ap (λ i. next_bit i) x_is)) in
    record {
      x_is = rw add-one (sym y_is ∙ ap (λ i. next_x i) x_is);
      bits_are = bits_next;
      low = rw (← y_is) (next_x-low x low high);
      high = rw (← y_is) (next_x-high x low high);
      bits_fit = omega (arith, bits_next, bits_after-below first (k + 1));
    }
