-- What a heap's clauses say of its items as numbers.
use Rattle.std.proofs.Common.{◌≡◌, ℕ, zero, suc, ◌+◌, ◌<◌, ◌≤◌, ◌⊎◌, Bool, true, false, List, [], ◌∷◌, length, map, refl, sym, ap, ◌∙◌, arith, subst, inl, inr}
use Rattle.std.specs.Prelude.{nat_lt}
use Rattle.std.specs.List.{All, Contains, AllByRecursion}
use Rattle.std.specs.List.Sorted.{IsPermutation}
use Rattle.std.specs.Ordering.{nat_cmp, is_lt}
use Rattle.std.specs.declared.cmp.Reverse.{Reverse}
use Rattle.std.specs.BinaryHeap.{IsUpperBound}
use Rattle.std.proofs.lemmas.List.{length-map}
use Rattle.std.proofs.lemmas.List.Sorted.{All-permutation, Contains-permutation, IsPermutation-map}
use Rattle.std.proofs.lemmas.List.Elements.{All-cons, All-tail, All-head, All-map, All-from_recursion}
use Rattle.std.proofs.lemmas.Bool.Decides.{nat_tests}

-- the numbers of a heap
abbrev pub numbers : List (Reverse ℕ) → List ℕ
numbers items = map (λ r. r.0) items

contains-behind : {X : Type 0} (x y : X) (xs : List X) → Contains xs y → Contains (x ∷ xs) y
contains-behind x y xs h = (suc h.0, omega (arith, h.1), h.2)

contains-front : {X : Type 0} (x : X) (xs : List X) → Contains (x ∷ xs) x
contains-front x xs = (0, omega arith, refl)

contains-cases : (x y : ℕ) (xs : List ℕ) → Contains (x ∷ xs) y → (y ≡ x) ⊎ Contains xs y
contains-cases x y xs (zero, lt, e) = inl (sym e)
contains-cases x y xs (suc k, lt, e) = inr (k, omega (arith, lt), e)

pub push-added : (x : Reverse ℕ) (old new : List (Reverse ℕ)) → IsPermutation (x ∷ old) new → Contains (numbers new) x.0
push-added x old new h = Contains-permutation (numbers (x ∷ old)) (numbers new) x.0 (IsPermutation-map (λ r. r.0) (x ∷ old) new h) (contains-front x.0 (numbers old))

pub push-kept : (x : Reverse ℕ) (old new : List (Reverse ℕ)) (d : ℕ) → IsPermutation (x ∷ old) new → Contains (numbers old) d → Contains (numbers new) d
push-kept x old new d h c = Contains-permutation (numbers (x ∷ old)) (numbers new) d (IsPermutation-map (λ r. r.0) (x ∷ old) new h) (contains-behind x.0 d (numbers old) c)

pub push-only : (x : Reverse ℕ) (old new : List (Reverse ℕ)) (bound : ℕ) → IsPermutation (x ∷ old) new → x.0 < bound → All (λ d. d < bound) (numbers old) → All (λ d. d < bound) (numbers new)
push-only x old new bound h lt all =
    All-permutation (λ d. d < bound) (numbers (x ∷ old)) (numbers new) (IsPermutation-map (λ r. r.0) (x ∷ old) new h) (All-cons (λ d. d < bound) x.0 (numbers old) lt all)

pub pop-left : (x : Reverse ℕ) (old new : List (Reverse ℕ)) (d : ℕ) → IsPermutation old (x ∷ new) → Contains (numbers old) d → (d ≡ x.0) ⊎ Contains (numbers new) d
pop-left x old new d h c = contains-cases x.0 d (numbers new) (Contains-permutation (numbers old) (numbers (x ∷ new)) d (IsPermutation-map (λ r. r.0) old (x ∷ new) h) c)

pub pop-only : (x : Reverse ℕ) (old new : List (Reverse ℕ)) (bound : ℕ) → IsPermutation old (x ∷ new) → All (λ d. d < bound) (numbers old) → (x.0 < bound) × All (λ d. d < bound) (numbers new)
pop-only x old new bound h all =
    let both : All (λ d. d < bound) (numbers (x ∷ new)) = All-permutation (λ d. d < bound) (numbers old) (numbers (x ∷ new)) (IsPermutation-map (λ r. r.0) old (x ∷ new) h) all in
    (All-head (λ d. d < bound) x.0 (numbers new) both, All-tail (λ d. d < bound) x.0 (numbers new) both)

least-number : (x y : ℕ) → is_lt (nat_cmp y x) ≡ false → x ≤ y
least-number x y h = by (nat_lt y x) refl h
  where
    by : (b : Bool) → nat_lt y x ≡ b → is_lt (nat_cmp y x) ≡ false → x ≤ y
    by b e g = grind (arith, nat_tests)

each-number : (x : Reverse ℕ) (items : List (Reverse ℕ)) → IsUpperBound (λ a b. nat_cmp b.0 a.0) x items → AllByRecursion (λ d. x.0 ≤ d) (numbers items)
each-number x [] h = tt
each-number x (y ∷ ys) h = (least-number x.0 y.0 h.0, each-number x ys h.1)

pub pop-least : (x : Reverse ℕ) (items : List (Reverse ℕ)) → IsUpperBound (λ a b. nat_cmp b.0 a.0) x items → All (λ d. x.0 ≤ d) (numbers items)
pop-least x items h = All-from_recursion (λ d. x.0 ≤ d) (numbers items) (each-number x items h)
