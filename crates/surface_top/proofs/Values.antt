-- The lines of the outputs of a circuit, one after the other.
use Rattle.std.proofs.Common.{rules, ◌≡◌, ℕ, zero, suc, ◌+◌, List, [], ◌∷◌, ◌++◌, drop, Some, sym, ap, ◌∙◌, append_assoc, subst, arith}
use Rattle.std.specs.Prelude.{slice_get}
use Rattle.std.specs.List.{flat_map}

-- a list from an item on
pub drop_get : {A : Type 0} (xs : List A) (i : ℕ) (x : A) → slice_get xs i ≡ Some x → drop i xs ≡ x ∷ drop (suc i) xs
drop_get [] i x h = search rules
drop_get (y ∷ xs) zero x h = search rules
drop_get (y ∷ xs) (suc i) x h = drop_get xs i x h

-- one more line
pub lines_more : {A : Type 0} (f : A → List ℕ) (xs : List A) (i : ℕ) (x : A) (done now all : List ℕ) → slice_get xs i ≡ Some x → now ≡ done ++ f x → done ++ flat_map f (drop i xs) ≡ all → now ++ flat_map f (drop (i + 1) xs) ≡ all
lines_more f xs i x done now all h is e =
    let one : suc i ≡ i + 1 = omega arith in
    let parted : flat_map f (drop i xs) ≡ f x ++ flat_map f (drop (suc i) xs) = ap (flat_map f) (drop_get xs i x h) in
    subst (λ k. now ++ flat_map f (drop k xs) ≡ all) one
    (ap (λ l. l ++ flat_map f (drop (suc i) xs)) is
    ∙ (append_assoc done (f x) (flat_map f (drop (suc i) xs))
    ∙ (sym (ap (λ l. done ++ l) parted) ∙ e)))
