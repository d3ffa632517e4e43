-- The order of keys.
use Rattle.std.proofs.Common.{◌≡◌, ℕ, zero, suc, ◌<◌, true, false, ◌&&◌, ◌⊎◌, inl, inr, refl, arith}
use Rattle.std.proofs.lemmas.Bool.{both_ways, cases_Bool}
use Rattle.std.proofs.lemmas.Bool.Decides.{nat_tests}
use Rattle.surf_kinds.specs.declared.event.Key.{Key}
use Rattle.surf_kinds.specs.Keys.{is_before, same_key, key_after, origin, ◌is_below◌, ◌is_upto◌}

pub lt_lt : (a b c : Key) → a is_below b → b is_below c → a is_below c
lt_lt a b c p q = grind (arith, nat_tests)

pub lt_le : (a b c : Key) → a is_below b → b is_upto c → a is_below c
lt_le a b c p q = grind (arith, nat_tests)

pub le_lt : (a b c : Key) → a is_upto b → b is_below c → a is_below c
le_lt a b c p q = grind (arith, nat_tests)

pub le_le : (a b c : Key) → a is_upto b → b is_upto c → a is_upto c
le_le a b c p q = grind (arith, nat_tests)

pub lt_to_le : (a b : Key) → a is_below b → a is_upto b
lt_to_le a b p = grind (arith, nat_tests)

pub le_refl : (a : Key) → a is_upto a
le_refl a = grind (arith, nat_tests)

pub lt_not_le : (a b : Key) → a is_below b → b is_upto a → ⊥
lt_not_le a b p q = both_ways (is_before a b) q p

pub key_cases : (a b : Key) → (a is_below b) ⊎ (b is_upto a)
key_cases a b = cases_Bool (is_before a b)

pub is_upto_origin : (a : Key) → origin is_upto a
is_upto_origin a = grind (arith, nat_tests)

pub not_below_origin : (a : Key) → a is_below origin → ⊥
not_below_origin a p = lt_not_le a origin p (is_upto_origin a)

pub below_after : (a : Key) → a is_below key_after a
below_after a = grind (arith, nat_tests)

pub below_after_upto : (a b : Key) → a is_below key_after b → a is_upto b
below_after_upto a b p = grind (arith, nat_tests)

pub same_refl : (a : Key) → same_key a a ≡ true
same_refl a = grind (arith, nat_tests)

key_by : (s t p q : ℕ) → s ≡ t → p ≡ q → Prim.Path Key (record { time = s; place = record { 0 = p } }) (record { time = t; place = record { 0 = q } })
key_by s t p q d e = cc

same_parts : (a b : Key) → same_key a b ≡ true → (a.time ≡ b.time) × (a.place.0 ≡ b.place.0)
same_parts a b h = grind (arith, nat_tests)

pub same_is : (a b : Key) → same_key a b ≡ true → a ≡ b
same_is a b h = let p = same_parts a b h in key_by a.time b.time a.place.0 b.place.0 p.0 p.1

pub upto_both : (a b : Key) → a is_upto b → b is_upto a → a ≡ b
upto_both a b p q = same_is a b (grind (arith, nat_tests))

pub below_not_same : (a b : Key) → a is_below b → same_key a b ≡ false
below_not_same a b p = grind (arith, nat_tests)

pub above_not_same : (a b : Key) → a is_below b → same_key b a ≡ false
above_not_same a b p = grind (arith, nat_tests)

pub not_same_below : (a b : Key) → same_key a b ≡ false → a is_upto b → a is_below b
not_same_below a b p q = grind (arith, nat_tests)

-- of two bounds the lower one counts
pub below_and : (j a b : Key) → a is_upto b → (is_before j b && is_before j a) ≡ is_before j a
below_and j a b p = grind (arith, nat_tests)

strong : (P : ℕ → Type 0) → ((n : ℕ) → ((m : ℕ) → m < n → P m) → P n) → (n k : ℕ) → k < n → P k
strong P step zero k h = absurd (omega (arith, h))
strong P step (suc n) k h = step k (λ m l. strong P step n m (omega (arith, l, h)))

pub strong_induction : (P : ℕ → Type 0) → ((n : ℕ) → ((m : ℕ) → m < n → P m) → P n) → (n : ℕ) → P n
strong_induction P step n = strong P step (suc n) n (omega arith)

-- what holds of a key where it holds of all keys below holds of each key
pub key_induction : (P : Key → Type 0) → ((k : Key) → ((j : Key) → j is_below k → P j) → P k) → (k : Key) → P k
key_induction P step k =
    strong_induction (λ t. (k : Key) → k.time ≡ t → P k) (λ t earlier.
    let at_time : (p : ℕ) → (k : Key) → k.place.0 ≡ p → k.time ≡ t → P k =
    strong_induction (λ p. (k : Key) → k.place.0 ≡ p → k.time ≡ t → P k) (λ p before k is_p is_t.
    step k (λ j l.
    let ways : (j.time < t) ⊎ ((j.time ≡ t) × (j.place.0 < p)) = lower j k l t p is_t is_p in
    elim ways [
      | inl q ↦ earlier j.time q j refl
      | inr q ↦ before j.place.0 q.1 j refl q.0
    ])) in
    λ k is_t. at_time k.place.0 k refl is_t) k.time k refl
  where
    lower : (j k : Key) → j is_below k → (t p : ℕ) → k.time ≡ t → k.place.0 ≡ p → (j.time < t) ⊎ ((j.time ≡ t) × (j.place.0 < p))
    lower j k l t p e f = grind (arith, nat_tests)
