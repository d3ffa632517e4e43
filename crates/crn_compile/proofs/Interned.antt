-- Names, kept one after the other.
use Rattle.std.proofs.Common.{◌≡◌, ℕ, suc, ◌+◌, ◌<◌, ◌≤◌, List, ◌∷◌, length, map, fold, drop, get_or, sym, ap, ◌∙◌, arith}
use Rattle.std.proofs.Math.Seq.{drop-cons}
use Rattle.std.proofs.lemmas.List.{drop_all}
use Rattle.species.specs.Names.{with_name}

module _ {X : Type 0} (read : X → List ℕ) where
  cut : (xs : List X) (i : ℕ) (d : X) → i < length xs → drop i xs ≡ get_or xs i d ∷ drop (i + 1) xs
  cut xs i d lt =
      let next : suc i ≡ i + 1 = omega arith in
      drop-cons xs i d lt ∙ ap (λ n. get_or xs i d ∷ drop n xs) next

  pub fold_more : (xs : List X) (i : ℕ) (d : X) (old new total : List (List ℕ)) → i < length xs → new ≡ with_name old (read (get_or xs i d))
      → fold with_name old (map read (drop i xs)) ≡ total → fold with_name new (map read (drop (i + 1) xs)) ≡ total
  fold_more xs i d old new total lt e so_far =
      ap (λ names. fold with_name names (map read (drop (i + 1) xs))) e ∙ ap (λ ys. fold with_name old (map read ys)) (sym (cut xs i d lt)) ∙ so_far

  pub fold_done : (xs : List X) (i : ℕ) (old total : List (List ℕ)) → length xs ≤ i → fold with_name old (map read (drop i xs)) ≡ total → old ≡ total
  fold_done xs i old total le so_far = ap (λ ys. fold with_name old (map read ys)) (sym (drop_all i xs le)) ∙ so_far
