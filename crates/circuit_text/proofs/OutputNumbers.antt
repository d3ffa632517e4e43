-- Numbers of names, looked up one after the other. The names are read from the items of a list.
use Rattle.std.proofs.Common.{◌≡◌, ℕ, zero, suc, ◌+◌, ◌<◌, ◌≤◌, true, List, [], ◌∷◌, ◌++◌, length, map, drop, get_or, sym, ap, ◌∙◌, append_assoc, subst, arith}
use Rattle.std.proofs.Math.Seq.{drop-cons}
use Rattle.std.proofs.lemmas.List.{append-nil, length-map, drop_all}
use Rattle.std.specs.List.{list_all}
use Rattle.std.proofs.lemmas.Bool.{and_parts}
use Rattle.species.specs.Texts.{is_in, index_of}
use Rattle.circuit_text.specs.Names.{Name}
use Rattle.species.proofs.LawLemmas.{index-within}

module _ {X : Type 0} (read : X → Name) (names : List Name) where
  cut : (xs : List X) (i : ℕ) (d : X) → i < length xs → drop i xs ≡ get_or xs i d ∷ drop (i + 1) xs
  cut xs i d lt =
      let next : suc i ≡ i + 1 = omega arith in
      drop-cons xs i d lt ∙ ap (λ n. get_or xs i d ∷ drop n xs) next

  pub number_more : (xs : List X) (i : ℕ) (d : X) (before total : List ℕ) (number : ℕ) → i < length xs → number ≡ index_of names (read (get_or xs i d))
      → before ++ map (index_of names) (map read (drop i xs)) ≡ total → (before ++ number ∷ []) ++ map (index_of names) (map read (drop (i + 1) xs)) ≡ total
  number_more xs i d before total number lt e so_far =
      append_assoc before (number ∷ []) (map (index_of names) (map read (drop (i + 1) xs)))
      ∙ ap (λ n. before ++ n ∷ map (index_of names) (map read (drop (i + 1) xs))) e
      ∙ ap (λ ys. before ++ map (index_of names) (map read ys)) (sym (cut xs i d lt)) ∙ so_far

  pub known_more : (xs : List X) (i : ℕ) (d : X) → i < length xs → list_all (is_in names) (map read (drop i xs)) ≡ true → list_all (is_in names) (map read (drop (i + 1) xs)) ≡ true
  known_more xs i d lt h =
      (and_parts (is_in names (read (get_or xs i d))) (list_all (is_in names) (map read (drop (i + 1) xs)))
      (ap (λ ys. list_all (is_in names) (map read ys)) (sym (cut xs i d lt)) ∙ h)).1

  pub numbers_done : (xs : List X) (i : ℕ) (before total : List ℕ) → length xs ≤ i → before ++ map (index_of names) (map read (drop i xs)) ≡ total → before ≡ total
  numbers_done xs i before total le so_far =
      sym (append-nil before) ∙ ap (λ ys. before ++ map (index_of names) (map read ys)) (sym (drop_all i xs le)) ∙ so_far

-- names that are all in the list have places there
places_within : (names xs : List Name) → list_all (is_in names) xs ≡ true → (i : ℕ) → i < length xs → get_or (map (index_of names) xs) i 0 < length names
places_within names [] h i lt = absurd (omega arith)
places_within names (x ∷ xs) h zero lt =
    index-within names x (and_parts (is_in names x) (list_all (is_in names) xs) h).0
places_within names (x ∷ xs) h (suc i) lt = places_within names xs (and_parts (is_in names x) (list_all (is_in names) xs) h).1 i (omega (arith, lt))

pub numbers_within : (names xs : List Name) (numbers : List ℕ) → list_all (is_in names) xs ≡ true → numbers ≡ map (index_of names) xs
    → (i : ℕ) → i < length numbers → get_or numbers i 0 < length names
numbers_within names xs numbers h e i lt =
    subst (λ ns. get_or ns i 0 < length names) (sym e) (places_within names xs h i (omega (arith, lt, ap length e, length-map xs (index_of names))))
