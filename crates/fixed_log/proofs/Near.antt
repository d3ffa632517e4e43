-- How near to the power the squarings stay, those of the definition and those of the estimate; and that both spell the same
-- bits where the estimate isn't near a power of two.
use Rattle.std.proofs.Common.{add-one, lit≤, ◌≡◌, ℕ, zero, suc, ◌+◌, ◌-◌, ◌*◌, ◌/◌, ◌%◌, ◌^◌, ◌<◌, ◌≤◌, inl, inr, refl, sym, ap, ◌∙◌, arith}
use Rattle.std.proofs.Math.Nat.{pow-le-pow_right, mul-le-mul, mul-le-mul_right, mul-le-mul_left, mod-eq_of_lt, pow-suc}
use Rattle.std.proofs.lemmas.Nat.{pow_pos, pow-add}
use Rattle.std.proofs.lemmas.Bool.{cases_lt}
use Rattle.std.proofs.lemmas.Bool.Decides.{nat_tests}
use Rattle.fixed_log.specs.Log.{next_bit, next_x, x_after, bits_after, squared}
use Rattle.fixed_log.specs.Near.{IsNear}
use Rattle.fixed_log.proofs.Squarings.{x_after-within}

-- two losses of a whole d, of a and of b, are at most their sum
losses : (d u v w a b : ℕ) → d ≡ w + a + b → u ≡ w + b → v ≡ w + a → d * w ≤ u * v
losses d u v w a b d_is u_is v_is = rw (d_is, u_is, v_is) (omega arith)

-- three of them
losses_3 : (u v w : ℕ) → u ≤ 2 ^ 63 → v ≤ 2 ^ 63 → w + 2 * 2 ^ 63 ≡ 2 * u + v → 2 ^ 126 * w ≤ u * u * v
losses_3 u v w u_within v_within sum =
    let s = 2 * u - 2 ^ 63 in
    let two : 2 ^ 63 * s ≤ u * u = losses (2 ^ 63) u u s (2 ^ 63 - u) (2 ^ 63 - u) (omega arith) (omega arith) (omega arith) in
    let third : 2 ^ 63 * w ≤ s * v = losses (2 ^ 63) s v w (2 ^ 63 - s) (2 ^ 63 - v) (omega arith) (omega arith) (omega arith) in
    omega (arith, mul-le-mul_right v two, third)

-- one squaring, over plain numbers: c is the power of two so far, k the power that the square is divided by
lower-numbers : (p c x y k : ℕ) → c * x ≤ p → y * k ≤ x * x → c * c * k * y ≤ p * p
lower-numbers p c x y k h q = omega (arith, mul-le-mul h h, mul-le-mul_left (c * c) q)

upper-numbers : (p c x y k u v w : ℕ) → p * u ≤ 2 ^ 63 * (c * x) → x * x * v ≤ 2 ^ 63 * (y * k) → 2 ^ 126 * w ≤ u * u * v
    → p * p * w ≤ 2 ^ 63 * (c * c * k * y)
upper-numbers p c x y k u v w h r q =
    omega (arith, mul-le-mul_right v (mul-le-mul h h), mul-le-mul_left (c * c) r, mul-le-mul_left (p * p) q)

-- one squaring, whose own loss is that from 2 ^ 63 to v
pub squared_near : (p t x y s u v w : ℕ) → IsNear p t x u → y * 2 ^ s ≤ x * x → x * x * v ≤ 2 ^ 63 * (y * 2 ^ s)
    → u ≤ 2 ^ 63 → v ≤ 2 ^ 63 → w + 2 * 2 ^ 63 ≡ 2 * u + v → IsNear (p * p) (t + t + s) y w
squared_near p t x y s u v w near low high u_within v_within sum =
    let power : 2 ^ (t + t + s) ≡ 2 ^ t * 2 ^ t * 2 ^ s = pow-add 2 (t + t) s ∙ ap (λ i. i * 2 ^ s) (pow-add 2 t t) in
    record {
      lower = rw power (lower-numbers p (2 ^ t) x y (2 ^ s) near.lower low);
      upper = rw power (upper-numbers p (2 ^ t) x y (2 ^ s) u v w near.upper high (losses_3 u v w u_within v_within sum));
    }

-- the squarings of the definition
step : (p t x u w : ℕ) → IsNear p t x u → 2 ^ 63 ≤ x → u ≤ 2 ^ 63 → w + 2 ^ 63 + 1 ≡ 2 * u
    → IsNear (p * p) (t + t + (63 + next_bit x)) (next_x x) w
step p t x u w near low u_within sum =
    let square : 2 ^ 126 ≤ x * x = omega (arith, mul-le-mul low low) in
    elim (cases_lt (x * x) (2 ^ 127)) [
      | inl below ↦
          (let bit : next_bit x ≡ 0 = grind (arith, nat_tests) in
          let next : next_x x ≡ x * x / 2 ^ 63 = grind (arith, nat_tests) in
          rw (bit, next) (squared_near p t x (x * x / 2 ^ 63) 63 u (2 ^ 63 - 1) w near (omega arith) (omega arith) u_within (omega arith) (omega arith)))
      | inr above ↦
          (let bit : next_bit x ≡ 1 = grind (arith, nat_tests) in
          let next : next_x x ≡ x * x / 2 ^ 64 = grind (arith, nat_tests) in
          rw (bit, next) (squared_near p t x (x * x / 2 ^ 64) 64 u (2 ^ 63 - 1) w near (omega arith) (omega arith) u_within (omega arith) (omega arith)))
    ]

pub definition_near : (x k : ℕ) → 2 ^ 63 ≤ x → x < 2 ^ 64 → k ≤ 32
    → IsNear (squared x k) (63 * (2 ^ k - 1) + bits_after x k) (x_after x k) (2 ^ 63 + 1 - 2 ^ k)
unfolding squared x_after bits_after
definition_near x zero low high h = record { lower = omega arith; upper = omega arith }
definition_near x (suc k) low high h =
    let t = 63 * (2 ^ k - 1) + bits_after x k in
    let before = definition_near x k low high (omega arith) in
    let few : 2 ^ k ≤ 2 ^ 32 = pow-le-pow_right {n = 2} (lit≤ tt) {i = k} {j = 32} (omega arith) in
    let next = step (squared x k) t (x_after x k) (2 ^ 63 + 1 - 2 ^ k) (2 ^ 63 + 1 - 2 ^ suc k) before (x_after-within x k low high).0 (omega (arith, pow_pos k)) (omega (arith, pow-suc 2 k)) in
    let sum : t + t + (63 + next_bit (x_after x k)) ≡ 63 * (2 ^ suc k - 1) + (2 * bits_after x k + next_bit (x_after x k))
    = omega (arith, pow-suc 2 k, pow_pos k) in
    rw (← sum) next

-- what the rounds of the estimate lose, out of 2 ^ 63
unfoldable pub loss : ℕ → ℕ
loss zero = 0
loss (suc k) = 16 * loss k + 33072

loss-is : (k : ℕ) → 15 * loss k + 33072 ≡ 33072 * 2 ^ (4 * k)
unfolding loss
loss-is zero = refl
loss-is (suc k) =
    let four : 4 * suc k ≡ 4 * k + 4 = omega arith in
    let power : 2 ^ (4 * suc k) ≡ 2 ^ (4 * k) * 2 ^ 4 = ap (λ i. 2 ^ i) four ∙ pow-add 2 (4 * k) 4 in
    omega (arith, loss-is k, power)

pub loss-below : (k : ℕ) → k ≤ 8 → loss k ≤ 2 ^ 44
loss-below k h = omega (arith, loss-is k, pow-le-pow_right {n = 2} (lit≤ tt) {i = 4 * k} {j = 32} (omega arith))

-- the upper half of a square, where x is at least 2 ^ 64 / a
upper_half-near : (p t x y u w e : ℕ) → IsNear p t x u → y ≡ x * x / 2 ^ 64 → u ≤ 2 ^ 63 → e ≤ 2 ^ 63 → 2 ^ 127 ≤ x * x * e
    → w + 2 ^ 63 + e ≡ 2 * u → IsNear (p * p) (t + t + 64) y w
upper_half-near p t x y u w e near y_is u_within e_within large sum =
    let v = 2 ^ 63 - e in
    let whole : x * x * v + x * x * e ≡ x * x * 2 ^ 63 = omega (arith, ap (λ i. x * x * i) (let s : v + e ≡ 2 ^ 63 = omega arith in s)) in
    squared_near p t x y 64 u v w near (omega arith) (omega (arith, whole)) u_within (omega arith) (omega arith)

-- four of them one after the other
record IsFourth (x a b c d : ℕ) : Type 0 where
  pub first : a ≡ x * x / 2 ^ 64
  pub second : b ≡ a * a / 2 ^ 64
  pub third : c ≡ b * b / 2 ^ 64
  pub last : d ≡ c * c / 2 ^ 64

record Lows (a b c d : ℕ) : Type 0 where
  pub first : 2 ^ 124 ≤ a * a
  pub second : 2 ^ 120 ≤ b * b
  pub third : 2 ^ 112 ≤ c * c
  pub last : 2 ^ 48 ≤ d

lows : (x a b c d : ℕ) → IsFourth x a b c d → 2 ^ 63 ≤ x → Lows a b c d
lows x a b c d is low =
    let a_low : 2 ^ 62 ≤ a = omega (arith, is.first, mul-le-mul low low) in
    let b_low : 2 ^ 60 ≤ b = omega (arith, is.second, mul-le-mul a_low a_low) in
    let c_low : 2 ^ 56 ≤ c = omega (arith, is.third, mul-le-mul b_low b_low) in
    record {
      first = omega (arith, mul-le-mul a_low a_low);
      second = omega (arith, mul-le-mul b_low b_low);
      third = omega (arith, mul-le-mul c_low c_low);
      last = omega (arith, is.last, mul-le-mul c_low c_low);
    }

same_power : (p s t y u : ℕ) → s ≡ t → IsNear p s y u → IsNear p t y u
same_power p s t y u e near = rw (← e) near

fourth-near : (first k t x a b c d e : ℕ) → IsFourth x a b c d → IsNear (squared first k) t x (2 ^ 63 - e) → 2 ^ 63 ≤ x → e ≤ 2 ^ 44
    → IsNear (squared first (suc (suc (suc (suc k))))) (16 * t + 960) d (2 ^ 63 - (16 * e + 33072))
unfolding squared
fourth-near first k t x a b c d e is near low few =
    let l = lows x a b c d is low in
    let p = squared first k in
    let q = p * p in
    let r = q * q in
    let n1 = upper_half-near p t x a (2 ^ 63 - e) (2 ^ 63 - (2 * e + 2)) 2 near is.first (omega arith) (omega arith) (omega (arith, mul-le-mul low low)) (omega arith) in
    let n2 = upper_half-near q (t + t + 64) a b (2 ^ 63 - (2 * e + 2)) (2 ^ 63 - (4 * e + 12)) 8 n1 is.second (omega arith) (omega arith) (omega (arith, l.first)) (omega arith) in
    let n3 = upper_half-near r (4 * t + 192) b c (2 ^ 63 - (4 * e + 12)) (2 ^ 63 - (8 * e + 152)) 128 (same_power r _ (4 * t + 192) b _ (omega arith) n2) is.third (omega arith) (omega arith) (omega (arith, l.second)) (omega arith) in
    let n4 = upper_half-near (r * r) (8 * t + 448) c d (2 ^ 63 - (8 * e + 152)) (2 ^ 63 - (16 * e + 33072)) 32768 (same_power (r * r) _ (8 * t + 448) c _ (omega arith) n3) is.last (omega arith) (omega arith) (omega (arith, l.third)) (omega arith) in
    same_power (r * r * (r * r)) _ (16 * t + 960) d _ (omega arith) n4

-- a power of two moved from one factor to the other
moved : (p t n x u : ℕ) → IsNear p (t + n) x u → IsNear p t (x * 2 ^ n) u
moved p t n x u near =
    let same : 2 ^ t * (x * 2 ^ n) ≡ 2 ^ (t + n) * x = omega (arith, ap (λ i. i * x) (pow-add 2 t n)) in
    record { lower = rw same near.lower; upper = rw same near.upper }

-- a multiple of a power of two has the highest bit of a word, moved up as far as it goes
raised : (a k : ℕ) → 2 ^ k ≤ a → a < 2 * 2 ^ k → k ≤ 63 → (2 ^ 63 ≤ a * 2 ^ (63 - k)) × (a * 2 ^ (63 - k) < 2 ^ 64)
raised a k low high within =
    let parts : 2 ^ k * 2 ^ (63 - k) ≡ 2 ^ 63 = sym (pow-add 2 k (63 - k)) ∙ ap (λ i. 2 ^ i) (let s : k + (63 - k) ≡ 63 = omega arith in s) in (
      omega (arith, parts, mul-le-mul_right (2 ^ (63 - k)) low),
      omega (arith, parts, pow_pos (63 - k), mul-le-mul_right (2 ^ (63 - k)) (let s : a + 1 ≤ 2 ^ k * 2 = omega arith in s)),
    )

-- a word of at least 2 ^ 48 has its highest bit at 48 or further up
pub whole-from : (a k : ℕ) → 2 ^ 48 ≤ a → a < 2 * 2 ^ k → 48 ≤ k
whole-from a k low high =
    elim (cases_lt k 48) [
      | inl below ↦ absurd (omega (arith, pow-le-pow_right {n = 2} (lit≤ tt) {i = k} {j = 47} (omega arith)))
      | inr from ↦ from
    ]

pub fourth-low : (x a b c d : ℕ) → a ≡ x * x / 2 ^ 64 → b ≡ a * a / 2 ^ 64 → c ≡ b * b / 2 ^ 64 → d ≡ c * c / 2 ^ 64
    → 2 ^ 63 ≤ x → 2 ^ 48 ≤ d
fourth-low x a b c d p q r s low = (lows x a b c d (record { first = p; second = q; third = r; last = s }) low).last

-- what a round leaves
pub record Rounds (first k x bits : ℕ) : Type 0 where
  pub near : IsNear (squared first (4 * k)) (63 * (2 ^ (4 * k) - 1) + bits) x (2 ^ 63 - loss k)
  pub low : 2 ^ 63 ≤ x
  pub bits_fit : bits < 2 ^ (4 * k)

pub rounds : (first k x bits a b c d n : ℕ) → k < 8 → Rounds first k x bits
    → a ≡ x * x / 2 ^ 64 → b ≡ a * a / 2 ^ 64 → c ≡ b * b / 2 ^ 64 → d ≡ c * c / 2 ^ 64
    → 2 ^ n ≤ d → d < 2 * 2 ^ n → n ≤ 63
    → Rounds first (k + 1) (d * 2 ^ (63 - n) % 2 ^ 64) (16 * bits + (n - 48))
unfolding loss
rounds first k x bits a b c d n h before p q r s low high within =
    let is : IsFourth x a b c d = record { first = p; second = q; third = r; last = s } in
    let from = whole-from d n (lows x a b c d is before.low).last high in
    let up = raised d n low high within in
    let t = 63 * (2 ^ (4 * k) - 1) + bits in
    let near = fourth-near first (4 * k) t x a b c d (loss k) is before.near before.low (loss-below k (omega arith)) in
    let next = suc (suc (suc (suc (4 * k)))) in
    let four : 4 * (k + 1) ≡ next = omega arith in
    let power : 2 ^ next ≡ 16 * 2 ^ (4 * k) = ap (λ i. 2 ^ i) (let e : next ≡ 4 + 4 * k = omega arith in e) ∙ pow-add 2 4 (4 * k) in
    let t_next = 63 * (2 ^ next - 1) + (16 * bits + (n - 48)) in
    let sum : 16 * t + 960 ≡ t_next + (63 - n) = omega (arith, power, pow_pos (4 * k)) in
    let back = moved (squared first next) t_next (63 - n) d (2 ^ 63 - (16 * loss k + 33072)) (rw (← sum) near) in
    let fits : d * 2 ^ (63 - n) % 2 ^ 64 ≡ d * 2 ^ (63 - n) = mod-eq_of_lt up.1 in
    record {
      near = rw (four, fits, add-one) back;
      low = rw fits up.0;
      bits_fit = rw four (omega (arith, power, before.bits_fit));
    }

-- Two numbers near to one power, the first of them from 2 ^ 63 to 2 ^ 64: where the second isn't near to a power of two, the
-- power has the same power of two before both.
exponent-most : (a b p x y u : ℕ) → 0 < a → 2 * a ≤ b → 2 ^ 63 ≤ x → b * x ≤ p → p * u ≤ 2 ^ 63 * (a * y) → 2 * u ≤ y
exponent-most a b p x y u positive twice low over under =
    let large : 2 * a * 2 ^ 63 ≤ p = omega (arith, mul-le-mul twice low) in
    elim (cases_lt y (2 * u)) [
      | inl less ↦ absurd (omega (arith, mul-le-mul_right u large, mul-le-mul_left (2 ^ 63 * a) (let s : y + 1 ≤ 2 * u = omega arith in s)))
      | inr most ↦ most
    ]

exponent-least : (a b p x y v : ℕ) → 0 < b → 2 * b ≤ a → x < 2 ^ 64 → p * v ≤ 2 ^ 63 * (b * x) → a * y ≤ p → y * v < 2 ^ 126
exponent-least a b p x y v positive twice high under over =
    elim (cases_lt (y * v) (2 ^ 126)) [
      | inl less ↦ less
      | inr most ↦ absurd (omega (arith, mul-le-mul_right v over, mul-le-mul_right (y * v) twice, mul-le-mul_left b most, mul-le-mul_left b (let s : x + 1 ≤ 2 ^ 64 = omega arith in s)))
    ]

double : (s t : ℕ) → s < t → 2 * 2 ^ s ≤ 2 ^ t
double s t h = omega (arith, pow-suc 2 s, pow-le-pow_right {n = 2} (lit≤ tt) {i = suc s} {j = t} (let e : suc s ≤ t = h in e))

same_exponent : (p s t x y : ℕ) → IsNear p s x (2 ^ 63 + 1 - 2 ^ 32) → 2 ^ 63 ≤ x → x < 2 ^ 64 → IsNear p t y (2 ^ 63 - 2 ^ 44)
    → 2 ^ 63 + 2 ^ 33 ≤ y → y < 2 ^ 64 - 2 ^ 45 → t ≡ s
same_exponent p s t x y one low high other from below =
    elim (cases_lt t s) [
      | inl less ↦ absurd (omega (arith, exponent-most (2 ^ t) (2 ^ s) p x y (2 ^ 63 - 2 ^ 44) (pow_pos t) (double t s less) low one.lower other.upper))
      | inr most ↦ elim (cases_lt s t) [
        | inl less ↦ absurd (omega (arith, exponent-least (2 ^ t) (2 ^ s) p x y (2 ^ 63 + 1 - 2 ^ 32) (pow_pos s) (double s t less) high one.upper other.lower))
        | inr least ↦ omega arith
      ]
    ]

pub same_bits : (x bits y : ℕ) → 2 ^ 63 ≤ x → x < 2 ^ 64 → IsNear (squared x 32) (63 * (2 ^ 32 - 1) + bits) y (2 ^ 63 - 2 ^ 44)
    → 2 ^ 63 + 2 ^ 33 ≤ y → y < 2 ^ 64 - 2 ^ 45 → bits ≡ bits_after x 32
same_bits x bits y low high near from below =
    let within = x_after-within x 32 low high in
    let one = definition_near x 32 low high (lit≤ tt) in
    omega (arith, same_exponent (squared x 32) (63 * (2 ^ 32 - 1) + bits_after x 32) _ (x_after x 32) y one within.0 within.1 near from below)

-- a number that is near is near with a greater loss too
pub nearer : (p t x u v : ℕ) → IsNear p t x u → v ≤ u → IsNear p t x v
nearer p t x u v near less = record { lower = near.lower; upper = omega (arith, near.upper, mul-le-mul_left p less) }
