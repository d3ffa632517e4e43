-- Sampling ticks, one after the other.
use Rattle.std.proofs.Common.{◌≡◌, ℕ, suc, ◌+◌, ◌-◌, ◌*◌, ◌/◌, ◌<◌, ◌≤◌, List, [], ◌∷◌, length, Some, None, Bool, true, false, refl, sym, ap, ◌∙◌, arith, subst, map, get_or}
use Rattle.std.specs.Prelude.{nat_le, nat_lt, All, if◌then◌else◌}
use Rattle.std.specs.List.{range_with_len}
use Rattle.std.proofs.Math.Nat.{mul-le-mul_right, div-le_of_le-mul}
use Rattle.std.proofs.lemmas.Bool.{leb-true}
use Rattle.std.proofs.lemmas.Bool.Decides.{nat_tests}
use Rattle.std.proofs.lemmas.List.FromFn.{length-map-range_with_len, get_or-map-range_with_len}
use Rattle.std.proofs.lemmas.List.Elements.{All-head, All-tail}
use Rattle.std.proofs.lemmas.Option.{none-some, same_Some}
use Rattle.run_writer.specs.RunText.{ticks_before, ticks_from}
use Rattle.run_writer.specs.Ticks.{ticks_after, tick_at}

picked : (b : Bool) (x tick : ℕ) → Some tick ≡ (if b then Some x else None) → (b ≡ true) × (tick ≡ x)
picked true x tick h = (refl, same_Some tick x h)
picked false x tick h = absurd (none-some tick (sym h))

-- the next tick is the first of those that are left
pub ticks_step : (until samples n tick : ℕ) → Some tick ≡ tick_at until samples n → (n ≤ samples) × (ticks_after until samples n ≡ tick ∷ ticks_after until samples (n + 1))
ticks_step until samples n tick h =
    let p = picked (nat_le n samples) (n * until / samples) tick h in
    let le : n ≤ samples = leb-true n samples p.0 in
    let one : samples + 1 - n ≡ suc (samples + 1 - (n + 1)) = omega (arith, le) in
    (le, ap (λ k. map (λ i. i * until / samples) (range_with_len n k)) one ∙ ap (λ t. t ∷ ticks_after until samples (n + 1)) (sym p.1))

-- each comes within the duration
pub ticks_within : (until samples : ℕ) → All (λ tick. tick ≤ until) (ticks_after until samples 1)
ticks_within until samples k d h =
    let f : ℕ → ℕ = λ i. i * until / samples in
    let long : length (ticks_after until samples 1) ≡ samples + 1 - 1 = length-map-range_with_len f 1 (samples + 1 - 1) in
    let inside : k < samples + 1 - 1 = omega (arith, h, long) in
    let product : (1 + k) * until ≤ samples * until = mul-le-mul_right until (omega (arith, inside)) in
    let is : get_or (ticks_after until samples 1) k d ≡ f (1 + k) = get_or-map-range_with_len f 1 (samples + 1 - 1) k (1 + k) d inside refl in
    subst (λ t. t ≤ until) (sym is) (div-le_of_le-mul samples product)

-- all that are left come before a later time
pub all_before : (time : ℕ) (ticks : List ℕ) → All (λ tick. tick < time) ticks → ticks_before time ticks ≡ ticks
all_before time [] h = refl
all_before time (tick ∷ ticks) h =
    let first : tick < time = All-head (λ t. t < time) tick ticks h in
    let test : nat_lt tick time ≡ true = grind (arith, nat_tests) in
    ap (λ b. if b then tick ∷ ticks_before time ticks else []) test ∙ ap (λ l. tick ∷ l) (all_before time ticks (All-tail (λ t. t < time) tick ticks h))

choose : (P : List ℕ → Type 0) (b : Bool) (xs ys : List ℕ) → P xs → P ys → P (if b then xs else ys)
choose P true xs ys p q = p
choose P false xs ys p q = q

pub within_from : (until time : ℕ) (ticks : List ℕ) → All (λ tick. tick ≤ until) ticks → All (λ tick. tick ≤ until) (ticks_from time ticks)
within_from until time [] h = h
within_from until time (tick ∷ ticks) h =
    choose (All (λ t. t ≤ until)) (nat_lt tick time) (ticks_from time ticks) (tick ∷ ticks) (within_from until time ticks (All-tail (λ t. t ≤ until) tick ticks h)) h

-- a tick before the time is the first of those before it, and not one of those from it on
pub before_more : (time tick : ℕ) (ticks : List ℕ) → tick < time → ticks_before time (tick ∷ ticks) ≡ tick ∷ ticks_before time ticks
before_more time tick ticks lt =
    let test : nat_lt tick time ≡ true = grind (arith, nat_tests) in
    ap (λ b. if b then tick ∷ ticks_before time ticks else []) test

pub from_more : (time tick : ℕ) (ticks : List ℕ) → tick < time → ticks_from time (tick ∷ ticks) ≡ ticks_from time ticks
from_more time tick ticks lt =
    let test : nat_lt tick time ≡ true = grind (arith, nat_tests) in
    ap (λ b. if b then ticks_from time ticks else tick ∷ ticks) test

-- where none is before the time, all are from it on
pub from_all : (time : ℕ) (ticks : List ℕ) → ticks_before time ticks ≡ [] → ticks_from time ticks ≡ ticks
from_all time [] h = refl
from_all time (tick ∷ ticks) h = go (nat_lt tick time) h
  where
    go : (b : Bool) → (if b then tick ∷ ticks_before time ticks else []) ≡ [] → (if b then ticks_from time ticks else tick ∷ ticks) ≡ tick ∷ ticks
    go true e = cc
    go false e = refl
