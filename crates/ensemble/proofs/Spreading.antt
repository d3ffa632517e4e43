-- The least, the greatest and the sum of counts.
use Rattle.std.proofs.Common.{◌≡◌, ℕ, ◌+◌, ◌*◌, ◌^◌, ◌<◌, ◌≤◌, List, [], ◌∷◌, length, map, take, get_or, ap, ◌∙◌, arith}
use Rattle.std.specs.Prelude.{All, sum, fold}
use Rattle.std.proofs.lemmas.List.{take_more, map-append, length-map}
use Rattle.std.proofs.lemmas.List.Elements.{All-head, All-tail, All-map}
use Rattle.std.proofs.lemmas.List.Sums.{fold-append}
use Rattle.ensemble.specs.declared.outcome.Outcome.{Outcome}
use Rattle.ensemble.specs.Outcomes.{IsWithin}

module _ {X : Type 0} (f : X → ℕ) (g : ℕ → ℕ → ℕ) where
  -- a fold over the numbers of one item more
  pub fold_more : (a : ℕ) (xs : List X) (i : ℕ) (d : X) → i < length xs → fold g a (map f (take (i + 1) xs)) ≡ g (fold g a (map f (take i xs))) (f (get_or xs i d))
  fold_more a xs i d h =
      ap (λ ys. fold g a (map f ys)) (take_more xs i d h)
      ∙ (ap (fold g a) (map-append f (take i xs) (get_or xs i d ∷ [])) ∙ fold-append g a (map f (take i xs)) (f (get_or xs i d) ∷ []))

-- a sum of numbers none of which is above another
pub sum_at_most : (most : ℕ) (ns : List ℕ) → All (λ n. n ≤ most) ns → sum ns ≤ length ns * most
sum_at_most most ns all = let whole = go most ns 0 all in omega (arith, whole)
  where
    go : (most : ℕ) (ns : List ℕ) (a : ℕ) → All (λ n. n ≤ most) ns → fold (λ x y. x + y) a ns ≤ a + length ns * most
    go most [] a all = omega arith
    go most (n ∷ ns) a all =
        let first = All-head (λ x. x ≤ most) n ns all in
        let rest = go most ns (a + n) (All-tail (λ x. x ≤ most) n ns all) in
        omega (arith, first, rest)

-- the events of outcomes within bounds have a sum of 34 bits
pub events_fit : (species_count : ℕ) (os : List Outcome) → length os ≤ 1000 → All (IsWithin species_count) os → sum (map (λ o. o.events) os) < 2 ^ 64
events_fit species_count os few all =
    let most = sum_at_most 10000000 (map (λ o. o.events) os) (All-map (λ n. n ≤ 10000000) (λ o. o.events) os (λ k d inside. (all k d inside).events)) in
    let long = length-map os (λ (o : Outcome). o.events) in
    let product : length (map (λ (o : Outcome). o.events) os) * 10000000 ≤ 1000 * 10000000 = omega (arith, long, few) in
    omega (arith, most, product)
