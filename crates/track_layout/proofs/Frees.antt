-- What a heap of free tracks has after a push and after a pop.
use Rattle.std.proofs.Common.{◌≡◌, ℕ, ◌≤◌, inl, inr, List, [], ◌∷◌, Bool, true, false, refl, sym, ap, ◌∙◌, arith, ◌==◌}
use Rattle.std.specs.Prelude.{◌||◌}
use Rattle.std.specs.List.{AllByRecursion, IsDistinct}
use Rattle.std.specs.List.Sorted.{IsPermutation}
use Rattle.std.specs.Ordering.{is_lt, nat_cmp}
use Rattle.std.proofs.lemmas.Bool.{cases_eq, eq-eqb}
use Rattle.std.proofs.lemmas.Bool.Decides.{eqb_tells}
use Rattle.std.proofs.lemmas.List.Sorted.{list_any-IsPermutation}
use Rattle.std.proofs.lemmas.Map.Keys.{ge_from_not_lt, IsDistinct-head, IsDistinct-tail, IsDistinct-cons, IsDistinct-IsPermutation}
use Rattle.track_layout.specs.Free.{has, Takes, Gives}

moved : {X : Type 0} (key : X → ℕ) (xs ys : List X) (k : ℕ) → IsPermutation xs ys → has ys key k ≡ has xs key k
moved key xs ys k same = sym (list_any-IsPermutation (λ x. key x == k) xs ys same)

not_same : (a b : ℕ) → (a ≡ b → ⊥) → (a == b) ≡ false
not_same a b other = elim (eqb_tells a b) [ inl t ↦ absurd (other t.1) | inr f ↦ f.0 ]

or_of : (b : Bool) {d : Bool} → b ≡ false → (b || d) ≡ d
or_of true e = absurd cc
or_of false e = refl

pub pushed : {X : Type 0} (key : X → ℕ) (x : X) (old new : List X) → IsPermutation (x ∷ old) new → Gives (has old key) (has new key) (key x)
pushed key x old new same = (
  moved key (x ∷ old) new (key x) same ∙ ap (λ b. b || has old key (key x)) (eq-eqb (key x) (key x) refl),
  λ k other. moved key (x ∷ old) new k same ∙ or_of (key x == k) (not_same (key x) k (λ e. other (sym e))),
)

absent : {X : Type 0} (key : X → ℕ) (k : ℕ) (xs : List X) → AllByRecursion (λ y. (k == key y) ≡ false) xs → has xs key k ≡ false
absent key k [] all = refl
absent key k (x ∷ xs) all = ap (λ b. b || has xs key k) (not_same (key x) k (λ e. let t = eq-eqb k (key x) (sym e) in let f = all.0 in cc)) ∙ absent key k xs all.1

under : {X : Type 0} (key : X → ℕ) (k : ℕ) (xs : List X) → AllByRecursion (λ y. is_lt (nat_cmp (key y) k) ≡ false) xs → (j : ℕ) → has xs key j ≡ true → k ≤ j
under key k [] all j is = absurd cc
under key k (x ∷ xs) all j is = elim (cases_eq (key x) j) [
  | inl same ↦ let l = ge_from_not_lt (key x) k all.0 in omega (arith, l, same)
  | inr other ↦ under key k xs all.1 j (sym (or_of (key x == j) (not_same (key x) j other)) ∙ is)
]

pub popped : {X : Type 0} (key : X → ℕ) (x : X) (old new : List X) → IsPermutation old (x ∷ new) → AllByRecursion (λ y. (key x == key y) ≡ false) new → AllByRecursion (λ y. is_lt (nat_cmp (key y) (key x)) ≡ false) new
    → Takes (has old key) (has new key) (key x)
popped key x old new same other least = (
  back (key x) ∙ ap (λ b. b || has new key (key x)) (eq-eqb (key x) (key x) refl),
  λ k is. elim (cases_eq (key x) k) [ inl e ↦ omega (arith, e) | inr differs ↦ under key (key x) new least k (sym (or_of (key x == k) (not_same (key x) k differs)) ∙ sym (back k) ∙ is) ],
  absent key (key x) new other,
  λ k differs. sym (or_of (key x == k) (not_same (key x) k (λ e. differs (sym e)))) ∙ sym (back k),
)
  where
    back : (k : ℕ) → has old key k ≡ has (x ∷ new) key k
    back k = sym (moved key old (x ∷ new) k same)

-- which of two keys comes first makes no difference
flips : {X : Type 0} (key : X → ℕ) (x y : X) → (key x == key y) ≡ (key y == key x)
flips key x y = elim (cases_eq (key x) (key y)) [
  | inl e ↦ eq-eqb (key x) (key y) e ∙ sym (eq-eqb (key y) (key x) (sym e))
  | inr other ↦ not_same (key x) (key y) other ∙ sym (not_same (key y) (key x) (λ e. other (sym e)))
]

unlisted : {X : Type 0} (key : X → ℕ) (k : ℕ) (xs : List X) → has xs key k ≡ false → AllByRecursion (λ y. (k == key y) ≡ false) xs
unlisted key k [] is = tt
unlisted key k (x ∷ xs) is = elim (cases_eq (key x) k) [
  | inl same ↦ absurd (let t : has (x ∷ xs) key k ≡ true = ap (λ b. b || has xs key k) (eq-eqb (key x) k same) in let z : true ≡ false = sym t ∙ is in cc)
  | inr other ↦ (not_same k (key x) (λ e. other (sym e)), unlisted key k xs (sym (or_of (key x == k) (not_same (key x) k other)) ∙ is))
]

pub distinct_pushed : {X : Type 0} (key : X → ℕ) (x : X) (old new : List X) → IsPermutation (x ∷ old) new → has old key (key x) ≡ false → IsDistinct (λ a b. key a == key b) old → IsDistinct (λ a b. key a == key b) new
distinct_pushed key x old new same gone once =
    IsDistinct-IsPermutation (λ a b. key a == key b) (flips key) (x ∷ old) new same (IsDistinct-cons (λ a b. key a == key b) x old (unlisted key (key x) old gone) once)

pub distinct_popped : {X : Type 0} (key : X → ℕ) (x : X) (old new : List X) → IsPermutation old (x ∷ new) → IsDistinct (λ a b. key a == key b) old
    → AllByRecursion (λ y. (key x == key y) ≡ false) new × IsDistinct (λ a b. key a == key b) new
distinct_popped key x old new same once =
    let d = IsDistinct-IsPermutation (λ a b. key a == key b) (flips key) old (x ∷ new) same once in
    (IsDistinct-head (λ a b. key a == key b) x new d, IsDistinct-tail (λ a b. key a == key b) x new d)
