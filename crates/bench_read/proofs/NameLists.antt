-- What a new name changes in the list of names under the set's keys.
use Rattle.std.proofs.Common.{◌≡◌, ℕ, true, false, List, [], ◌∷◌, ◌++◌, map, if◌then◌else◌, sym, ap, ◌∙◌}
use Rattle.std.specs.List.{list_any}
use Rattle.std.specs.Str.{bytes_eq}
use Rattle.std.proofs.lemmas.List.{map-append}
use Rattle.species.specs.Texts.{is_in}
use Rattle.species.proofs.LawLemmas.{list_any-map}

pub pushed : {X : Type 0} (f : X → List ℕ) (xs : List X) (x : X) (names : List (List ℕ)) → map f xs ≡ names → is_in names (f x) ≡ false
    → map f (if list_any (λ y. bytes_eq (f x) (f y)) xs then xs else xs ++ x ∷ []) ≡ names ++ f x ∷ []
pushed f xs x names same new =
    let none : list_any (λ y. bytes_eq (f x) (f y)) xs ≡ false = sym (list_any-map f (bytes_eq (f x)) xs) ∙ ap (λ ns. list_any (bytes_eq (f x)) ns) same ∙ new in
    ap (λ b. map f (if b then xs else xs ++ x ∷ [])) none ∙ map-append f xs (x ∷ []) ∙ ap (λ ns. ns ++ f x ∷ []) same
