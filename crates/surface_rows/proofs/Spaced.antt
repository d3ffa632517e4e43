-- Names with one space between, one name after the other.
use Rattle.std.proofs.Common.{◌≡◌, ℕ, suc, ◌+◌, ◌<◌, ◌≤◌, List, [], ◌∷◌, ◌++◌, length, map, take, drop, get_or, sym, ap, ◌∙◌, append_assoc, append-nil}
use Rattle.std.specs.List.{flat_map}
use Rattle.std.proofs.lemmas.List.{take_more, take_all, take-append-drop, map-append}
use Rattle.std.proofs.lemmas.List.Concat.{flat_map-append}
use Rattle.surf_kinds.specs.declared.site.SpeciesId.{SpeciesId}
use Rattle.surface_rows.specs.Rows.{name_of, spaced}

-- names, each with a space before it
abbrev pub behind : List (List ℕ) → List SpeciesId → List ℕ
behind names ids = flat_map (λ n. 32 ∷ n) (map (name_of names) ids)

-- the first n names
abbrev pub first_names : List (List ℕ) → List SpeciesId → ℕ → List ℕ
first_names names ids n = spaced (map (name_of names) (take n ids))

pub behind-append : (names : List (List ℕ)) (xs ys : List SpeciesId) → behind names (xs ++ ys) ≡ behind names xs ++ behind names ys
behind-append names xs ys =
    ap (flat_map (λ n. 32 ∷ n)) (map-append (name_of names) xs ys)
    ∙ flat_map-append (λ n. 32 ∷ n) (map (name_of names) xs) (map (name_of names) ys)

-- one name more
pub behind-more : (names : List (List ℕ)) (ids : List SpeciesId) (i : ℕ) (d : SpeciesId) → i < length ids
    → behind names (take (i + 1) ids) ≡ behind names (take i ids) ++ 32 ∷ name_of names (get_or ids i d)
behind-more names ids i d h =
    ap (behind names) (take_more ids i d h)
    ∙ behind-append names (take i ids) (get_or ids i d ∷ [])
    ∙ ap (λ t. behind names (take i ids) ++ 32 ∷ t) (append-nil (name_of names (get_or ids i d)))

pub names-more : (names : List (List ℕ)) (first : SpeciesId) (others : List SpeciesId) (i : ℕ) (d : SpeciesId) → i < length others
    → first_names names (first ∷ others) (suc i) ++ 32 ∷ name_of names (get_or others i d) ≡ first_names names (first ∷ others) (suc (i + 1))
names-more names first others i d h =
    append_assoc (name_of names first) (behind names (take i others)) (32 ∷ name_of names (get_or others i d))
    ∙ ap (λ t. name_of names first ++ t) (sym (behind-more names others i d h))

-- with the names that come after it
pub names-within : (names : List (List ℕ)) (first : SpeciesId) (others : List SpeciesId) (i : ℕ) (d : SpeciesId) → i < length others
    → (first_names names (first ∷ others) (suc i) ++ 32 ∷ name_of names (get_or others i d)) ++ behind names (drop (i + 1) others) ≡ spaced (map (name_of names) (first ∷ others))
names-within names first others i d h =
    ap (λ t. t ++ behind names (drop (i + 1) others)) (names-more names first others i d h)
    ∙ append_assoc (name_of names first) (behind names (take (i + 1) others)) (behind names (drop (i + 1) others))
    ∙ ap (λ t. name_of names first ++ t) (sym (behind-append names (take (i + 1) others) (drop (i + 1) others)) ∙ ap (behind names) (take-append-drop (i + 1) others))

pub names-one : (names : List (List ℕ)) (first : SpeciesId) (others : List SpeciesId) → name_of names first ≡ first_names names (first ∷ others) 1
names-one names first others = sym (append-nil (name_of names first))

pub names-all : (names : List (List ℕ)) (ids : List SpeciesId) (n : ℕ) → length ids ≤ n → first_names names ids n ≡ spaced (map (name_of names) ids)
names-all names ids n h = ap (λ t. spaced (map (name_of names) t)) (take_all n ids h)
