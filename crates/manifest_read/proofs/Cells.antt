-- The names by first appearance, and their numbers, as one more name comes.
use Rattle.std.proofs.Common.{◌≡◌, ℕ, ◌+◌, Bool, true, false, cond, not, ◌||◌, List, [], ◌∷◌, ◌++◌, map, fold, refl, ap, ◌∙◌}
use Rattle.std.specs.List.{list_any, position_or_len}
use Rattle.std.specs.Str.{bytes_eq}
use Rattle.std.proofs.lemmas.List.Folds.{list_any-append}
use Rattle.std.proofs.lemmas.Slice.Eq.{bytes_eq-Decides}
use Rattle.species.specs.Names.{with_name, place_of}
use Rattle.surf_kinds.specs.declared.site.SpeciesId.{SpeciesId}
use Rattle.manifest_read.specs.Names.{IsListed, AreListed}

-- a place that was found stays the first one
module _ {X : Type 0} (p : X → Bool) where
  pub position-stays : (xs ys : List X) → list_any p xs ≡ true → position_or_len p (xs ++ ys) ≡ position_or_len p xs
  position-stays [] ys h = absurd cc
  position-stays (x ∷ xs) ys h = by (p x) h (λ e. position-stays xs ys e)
    where
      by : (b : Bool) → (b || list_any p xs) ≡ true → (list_any p xs ≡ true → position_or_len p (xs ++ ys) ≡ position_or_len p xs)
          → cond (not b) (1 + position_or_len p (xs ++ ys)) 0 ≡ cond (not b) (1 + position_or_len p xs) 0
      by true e more = refl
      by false e more = ap (λ n. 1 + n) (more e)

any-more : (p : List ℕ → Bool) (xs : List (List ℕ)) (y : List ℕ) → list_any p xs ≡ true → list_any p (xs ++ y ∷ []) ≡ true
any-more p xs y h = list_any-append p xs (y ∷ []) ∙ ap (λ b. b || (p y || false)) h

pub place-more : (known : List (List ℕ)) (word name : List ℕ) → IsListed known name → place_of (with_name known word) name ≡ place_of known name
place-more known word name h = by (list_any (bytes_eq word) known)
  where
    by : (b : Bool) → place_of (cond b known (known ++ word ∷ [])) name ≡ place_of known name
    by true = refl
    by false = ap (λ n. let i : SpeciesId = record { 0 = n } in i) (position-stays (bytes_eq name) known (word ∷ []) h)

pub listed-more : (known : List (List ℕ)) (word name : List ℕ) → IsListed known name → IsListed (with_name known word) name
listed-more known word name h = by (list_any (bytes_eq word) known)
  where
    by : (b : Bool) → IsListed (cond b known (known ++ word ∷ [])) name
    by true = h
    by false = any-more (bytes_eq name) known word h

same-true : (name : List ℕ) → bytes_eq name name ≡ true
same-true name = (bytes_eq-Decides name name).1 refl

pub listed-itself : (known : List (List ℕ)) (word : List ℕ) → IsListed (with_name known word) word
listed-itself known word = by (list_any (bytes_eq word) known) refl
  where
    by : (b : Bool) → list_any (bytes_eq word) known ≡ b → IsListed (cond b known (known ++ word ∷ [])) word
    by true e = e
    by false e = list_any-append (bytes_eq word) known (word ∷ []) ∙ ap (λ b. b || (bytes_eq word word || false)) e ∙ ap (λ b. b || false) (same-true word)

-- the names of a list are listed once they came
pub listed-fold : (words known : List (List ℕ)) (name : List ℕ) → IsListed known name → IsListed (fold with_name known words) name
listed-fold [] known name h = h
listed-fold (w ∷ ws) known name h = listed-fold ws (with_name known w) name (listed-more known w name h)

pub place-fold : (words known : List (List ℕ)) (name : List ℕ) → IsListed known name → place_of (fold with_name known words) name ≡ place_of known name
place-fold [] known name h = refl
place-fold (w ∷ ws) known name h = place-fold ws (with_name known w) name (listed-more known w name h) ∙ place-more known w name h

pub places-fold : (words known names : List (List ℕ)) → AreListed known names → map (place_of (fold with_name known words)) names ≡ map (place_of known) names
places-fold words known [] h = refl
places-fold words known (n ∷ ns) h = rw (place-fold words known n h.0, places-fold words known ns h.1) refl

pub listed-words : (words known : List (List ℕ)) → AreListed (fold with_name known words) words
listed-words [] known = tt
listed-words (w ∷ ws) known = (listed-fold ws (with_name known w) w (listed-itself known w), listed-words ws (with_name known w))
