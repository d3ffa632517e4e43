-- The numbers of names.
use Rattle.std.proofs.Common.{◌≡◌, ℕ, ◌≤◌, Bool, true, false, ◌&&◌, ◌==◌, cond, not, List, [], ◌∷◌, ◌++◌, length, None, Some, if◌then◌else◌, refl, ap, ◌∙◌, arith, nat_lt}
use Rattle.std.specs.Option.{option_map}
use Rattle.std.specs.Str.{bytes_eq}
use Rattle.std.proofs.lemmas.List.{length-append}
use Rattle.std.proofs.lemmas.List.Folds.{position_or_len_push}
use Rattle.std.proofs.lemmas.Bool.Decides.{nat_tests}
use Rattle.std.proofs.lemmas.Slice.Eq.{bytes_eq-Decides}
use Rattle.std.proofs.lemmas.List.Sums.{prefix_len-le-length}
use Rattle.surf_kinds.specs.declared.site.SpeciesId.{SpeciesId}
use Rattle.species.specs.Texts.{is_in, index_of}
use Rattle.species.specs.Names.{with_name, number_of, place_of, is_full}
use Rattle.species.proofs.TextLists.{is_in-index}

bytes_eq-same : (xs : List ℕ) → bytes_eq xs xs ≡ true
bytes_eq-same xs = (bytes_eq-Decides xs xs).1 refl

absent : (names : List (List ℕ)) (name : List ℕ) → number_of names name ≡ None
    → nat_lt (index_of names name) (length names) ≡ false
absent names name h =
    by (index_of names name) (nat_lt (index_of names name) (length names)) h
  where
    by : (n : ℕ) (b : Bool) → option_map {U = SpeciesId} (λ i. record { 0 = i }) (cond b (Some n) None) ≡ None → b ≡ false
    by n true e = cc
    by n false e = refl

present : (names : List (List ℕ)) (name : List ℕ) (id : SpeciesId) → number_of names name ≡ Some id
    → nat_lt (index_of names name) (length names) ≡ true
present names name id h =
    by (index_of names name) (nat_lt (index_of names name) (length names)) h
  where
    by : (n : ℕ) (b : Bool) → option_map {U = SpeciesId} (λ i. record { 0 = i }) (cond b (Some n) None) ≡ Some id → b ≡ true
    by n true e = refl
    by n false e = cc

pub with_name-new : (names : List (List ℕ)) (name : List ℕ) → number_of names name ≡ None
    → with_name names name ≡ names ++ name ∷ []
with_name-new names name h =
    ap (λ b. if b then names else names ++ name ∷ []) (is_in-index names name ∙ absent names name h)

pub with_name-known : (names : List (List ℕ)) (name : List ℕ) (id : SpeciesId) → number_of names name ≡ Some id
    → with_name names name ≡ names
with_name-known names name id h =
    ap (λ b. if b then names else names ++ name ∷ []) (is_in-index names name ∙ present names name id h)

-- a new name goes last, and its number is the count before
pub number-new : (names : List (List ℕ)) (name : List ℕ) → number_of names name ≡ None
    → number_of (names ++ name ∷ []) name ≡ Some (record { 0 = length names })
number-new names name h =
    let missing = absent names name h in
    let at_most : index_of names name ≤ length names = prefix_len-le-length _ names in
    let last : index_of (names ++ name ∷ []) name ≡ length names
    = grind (arith, nat_tests, position_or_len_push (bytes_eq name) names name, bytes_eq-same name) in
    let inside : nat_lt (length names) (length (names ++ name ∷ [])) ≡ true = grind (arith, nat_tests, length-append {A = List ℕ}) in
    rw (last, inside) refl

-- the place of a name whose number is known
pub place-known : (names : List (List ℕ)) (name : List ℕ) (id : SpeciesId) → number_of names name ≡ Some id
    → (id ≡ place_of names name) × (is_in names name ≡ true)
place-known names name id h = (
  by (index_of names name) (nat_lt (index_of names name) (length names)) h,
  is_in-index names name ∙ present names name id h,
)
  where
    by : (n : ℕ) (b : Bool) → option_map {U = SpeciesId} (λ i. record { 0 = i }) (cond b (Some n) None) ≡ Some id → id ≡ record { 0 = n }
    by n true e = cc
    by n false e = absurd cc

pub not_full-known : (names : List (List ℕ)) (name : List ℕ) → is_in names name ≡ true → is_full names name ≡ false
not_full-known names name h = rw h refl

pub not_full-room : (names : List (List ℕ)) (name : List ℕ) → (length names == 4096) ≡ false → is_full names name ≡ false
not_full-room names name h = elim (is_in names name) as (λ t. (not t && length names == 4096) ≡ false) [ true ↦ refl | false ↦ h ]

pub full : (names : List (List ℕ)) (name : List ℕ) → number_of names name ≡ None → (length names == 4096) ≡ true → is_full names name ≡ true
full names name h g = rw (is_in-index names name ∙ absent names name h, g) refl
