-- Lines that are written one after the other.
use Rattle.std.proofs.Common.{◌≡◌, ℕ, ◌+◌, ◌<◌, ◌≤◌, List, [], ◌∷◌, ◌++◌, map, length, take, drop, get_or, sym, ap, ◌∙◌, take_all}
use Rattle.std.specs.List.{flat_map}
use Rattle.std.proofs.lemmas.List.Folds.{flat_map-map}
use Rattle.surf_text.proofs.LawLemmas.{parts-more, parts-within}
use Rattle.surface_rows.specs.Rows.{lines_text}

abbrev pub ended : List ℕ → List ℕ
ended line = line ++ 10 ∷ []

module _ {X : Type 0} (f : X → List ℕ) where
  lines-are : (xs : List X) → lines_text (map f xs) ≡ flat_map (λ x. ended (f x)) xs
  lines-are xs = flat_map-map ended f xs

  -- one line more
  pub lines-more : (xs : List X) (i : ℕ) (d : X) → i < length xs → lines_text (map f (take i xs)) ++ ended (f (get_or xs i d)) ≡ lines_text (map f (take (i + 1) xs))
  lines-more xs i d h =
      ap (λ t. t ++ ended (f (get_or xs i d))) (lines-are (take i xs)) ∙ sym (parts-more (λ x. ended (f x)) xs i d h) ∙ sym (lines-are (take (i + 1) xs))

  pub lines-within : (xs : List X) (i : ℕ) (d : X) → i < length xs
      → (lines_text (map f (take i xs)) ++ ended (f (get_or xs i d))) ++ lines_text (map f (drop (i + 1) xs)) ≡ lines_text (map f xs)
  lines-within xs i d h =
      ap (λ t. (t ++ ended (f (get_or xs i d))) ++ lines_text (map f (drop (i + 1) xs))) (lines-are (take i xs))
      ∙ ap (λ t. (flat_map (λ x. ended (f x)) (take i xs) ++ ended (f (get_or xs i d))) ++ t) (lines-are (drop (i + 1) xs))
      ∙ parts-within (λ x. ended (f x)) xs i d h ∙ sym (lines-are xs)

  pub lines-all : (xs : List X) (i : ℕ) → length xs ≤ i → lines_text (map f (take i xs)) ≡ lines_text (map f xs)
  lines-all xs i h = ap (λ ys. lines_text (map f ys)) (take_all i xs h)
