-- The list of texts under the set's keys: what a search by bytes finds, and what a new text changes.
use Rattle.std.proofs.Common.{String, ◌≡◌, ℕ, suc, ◌+◌, ◌<◌, Bool, true, false, cond, not, ◌||◌, List, [], ◌∷◌, ◌++◌, map, length, position, None, Some, if◌then◌else◌, refl, sym, ap, ◌∙◌, arith, nat_lt}
use Rattle.std.specs.List.{position_or_len, list_any, IsDistinct, AllByRecursion}
use Rattle.std.specs.Str.{bytes_eq}
use Rattle.std.proofs.lemmas.List.{length-map, map-append}
use Rattle.std.proofs.lemmas.Bool.{ltb-true}
use Rattle.std.proofs.lemmas.Bool.Decides.{nat_tests}
use Rattle.std.specs.String.{string_bytes, string_eq}
use Rattle.indexmap.specs.IndexSet.{insert_key}
use Rattle.species.specs.Texts.{is_in, index_of, with_text}

module _ {X Y : Type 0} (f : X → Y) (p : Y → Bool) where
  position_or_len-map : (xs : List X) → position_or_len p (map f xs) ≡ position_or_len (λ x. p (f x)) xs
  position_or_len-map [] = refl
  position_or_len-map (x ∷ xs) = ap (λ n. cond (not (p (f x))) (1 + n) 0) (position_or_len-map xs)

  pub position-map : (xs : List X) → position p (map f xs) ≡ position (λ x. p (f x)) xs
  position-map xs = rw (position_or_len-map xs, length-map) refl

  pub list_any-map : (xs : List X) → list_any p (map f xs) ≡ list_any (λ x. p (f x)) xs
  list_any-map [] = refl
  list_any-map (x ∷ xs) = ap (λ b. p (f x) || b) (list_any-map xs)

module _ {X : Type 0} (p : X → Bool) where
  pub list_any-position : (xs : List X) → list_any p xs ≡ nat_lt (position_or_len p xs) (length xs)
  list_any-position [] = refl
  list_any-position (x ∷ xs) =
      elim (p x) as (λ b. (b || list_any p xs) ≡ nat_lt (cond (not b) (1 + position_or_len p xs) 0) (suc (length xs))) [
        | true ↦ first (length xs)
        | false ↦ list_any-position xs ∙ below (position_or_len p xs) (length xs)
      ]
    where
      first : (n : ℕ) → true ≡ nat_lt 0 (suc n)
      first n = grind (arith, nat_tests)

      below : (m n : ℕ) → nat_lt m n ≡ nat_lt (1 + m) (suc n)
      below m n = grind (arith, nat_tests)

-- a text is in the list exactly where its number is below the count
pub is_in-index : (texts : List (List ℕ)) (text : List ℕ) → is_in texts text ≡ nat_lt (index_of texts text) (length texts)
is_in-index texts text = list_any-position (bytes_eq text) texts

pub index-within : (texts : List (List ℕ)) (text : List ℕ) → is_in texts text ≡ true → index_of texts text < length texts
index-within texts text h = ltb-true (index_of texts text) (length texts) (sym (is_in-index texts text) ∙ h)

by_some : (n i : ℕ) (b : Bool) → Some i ≡ cond b (Some n) None → (i ≡ n) × (b ≡ true)
by_some n i true e = (cc, refl)
by_some n i false e = absurd cc

by_none : (n : ℕ) (b : Bool) → None ≡ cond b (Some n) None → b ≡ false
by_none n true e = absurd cc
by_none n false e = refl

pub found : (texts : List (List ℕ)) (text : List ℕ) (i : ℕ) → Some i ≡ position (bytes_eq text) texts → (i ≡ index_of texts text) × (is_in texts text ≡ true)
found texts text i h =
    let p = by_some (index_of texts text) i (nat_lt (index_of texts text) (length texts)) h in
    (p.0, is_in-index texts text ∙ p.1)

pub missing : (texts : List (List ℕ)) (text : List ℕ) → None ≡ position (bytes_eq text) texts → is_in texts text ≡ false
missing texts text h = is_in-index texts text ∙ by_none (index_of texts text) (nat_lt (index_of texts text) (length texts)) h

-- what an insertion of a key does to the list of texts
pub inserted : {Z : Type 0} (ks : List (String Z)) (k : String Z) (name : List ℕ) → string_bytes k ≡ name
    → map string_bytes (insert_key string_eq ks k) ≡ with_text (map string_bytes ks) name
inserted ks k name e =
    by (list_any (string_eq k) ks) (list_any (bytes_eq name) (map string_bytes ks)) same
  where
    same : list_any (string_eq k) ks ≡ list_any (bytes_eq name) (map string_bytes ks)
    same = sym (list_any-map string_bytes (bytes_eq (string_bytes k)) ks) ∙ ap (λ t. list_any (bytes_eq t) (map string_bytes ks)) e

    by : (a b : Bool) → a ≡ b → map string_bytes (if a then ks else ks ++ k ∷ []) ≡ (if b then map string_bytes ks else map string_bytes ks ++ name ∷ [])
    by true b h = ap (λ i. if i then map string_bytes ks else map string_bytes ks ++ name ∷ []) h
    by false b h =
        map-append string_bytes ks (k ∷ []) ∙ ap (λ t. map string_bytes ks ++ t ∷ []) e
        ∙ ap (λ i. if i then map string_bytes ks else map string_bytes ks ++ name ∷ []) h

-- what holds of each element of a mapped list
differs : {Z : Type 0} (k : String Z) (ks : List (String Z)) → AllByRecursion (λ y. string_eq k y ≡ false) ks
    → AllByRecursion (λ t. bytes_eq (string_bytes k) t ≡ false) (map string_bytes ks)
differs k [] h = h
differs k (x ∷ xs) h = (h.0, differs k xs h.1)

-- the texts differ, since the set's keys do
pub texts_differ : {Z : Type 0} (ks : List (String Z)) → IsDistinct string_eq ks → IsDistinct bytes_eq (map string_bytes ks)
unfolding IsDistinct
texts_differ [] h = h
texts_differ (x ∷ xs) h = (differs x xs h.0, texts_differ xs h.1)
