-- The lines, from their parts.
use Rattle.std.proofs.Common.{◌≡◌, ℕ, ◌+◌, ◌<◌, List, [], ◌∷◌, ◌++◌, length, map, take, drop, get_or, refl, sym, ap, ◌∙◌, append_assoc, append-nil, take-append-drop}
use Rattle.std.specs.Prelude.{decimal, codes, slice_index_or, sum, count_by}
use Rattle.std.specs.List.{flat_map}
use Rattle.std.proofs.lemmas.List.{take_more}
use Rattle.std.proofs.lemmas.List.Concat.{flat_map-append}
use Rattle.surf_outside.specs.Parts.{parts}
use Rattle.ensemble.specs.declared.outcome.Outcome.{Outcome}
use Rattle.ensemble.specs.Texts.{count_in, counts_in, least, greatest, count_text, end_text, outcome_text, total_text, species_text}
use Rattle.ensemble.specs.Wording.{three}

pub count-is : (names : List (List ℕ)) (o : Outcome) (species : ℕ) → 32 ∷ slice_index_or names species [] ++ 58 ∷ decimal (count_in species o) ≡ count_text names o species
unfolding count_text
count-is names o species = refl

three-is : (u : List ℕ) (a : ℕ) (v : List ℕ) (b : ℕ) (w : List ℕ) (c : ℕ) → three u a v b w c ≡ u ++ decimal a ++ v ++ decimal b ++ w ++ decimal c
three-is u a v b w c = simp append_assoc

pub outcome-is : (names : List (List ℕ)) (o : Outcome)
    → three (codes "seed ") o.seed (codes " events ") o.events (codes " last ") o.last ++ parts (count_text names o) (length names) ++ end_text o.ended ≡ outcome_text names o
unfolding outcome_text
outcome-is names o = ap (λ t. t ++ parts (count_text names o) (length names) ++ end_text o.ended) (three-is (codes "seed ") o.seed (codes " events ") o.events (codes " last ") o.last)

pub total-is : (os : List Outcome) → three (codes "total seeds ") (length os) (codes " ended ") (count_by (λ o. o.ended) os) (codes " events ") (sum (map (λ o. o.events) os)) ++ 10 ∷ [] ≡ total_text os
unfolding total_text
total-is os = ap (λ t. t ++ 10 ∷ []) (three-is (codes "total seeds ") (length os) (codes " ended ") (count_by (λ o. o.ended) os) (codes " events ") (sum (map (λ o. o.events) os)))

species-is : (names : List (List ℕ)) (os : List Outcome) (species : ℕ)
    → slice_index_or names species [] ++ three (codes " least ") (least (counts_in species os)) (codes " greatest ") (greatest (counts_in species os)) (codes " sum ") (sum (counts_in species os)) ++ 10 ∷ []
    ≡ species_text names os species
unfolding species_text
species-is names os species = spread-line (slice_index_or names species []) (codes " least ") (least (counts_in species os)) (codes " greatest ") (greatest (counts_in species os)) (codes " sum ") (sum (counts_in species os))
  where
    spread-line : (name u : List ℕ) (a : ℕ) (v : List ℕ) (b : ℕ) (w : List ℕ) (c : ℕ) → name ++ three u a v b w c ++ 10 ∷ [] ≡ name ++ u ++ decimal a ++ v ++ decimal b ++ w ++ decimal c ++ 10 ∷ []
    spread-line name u a v b w c = simp append_assoc

-- the line of a species, from the numbers that were found
pub spread-is : (names : List (List ℕ)) (os : List Outcome) (species a b s : ℕ) (name : List ℕ) → name ≡ slice_index_or names species [] → a ≡ least (counts_in species os) → b ≡ greatest (counts_in species os) → s ≡ sum (counts_in species os)
    → name ++ three (codes " least ") a (codes " greatest ") b (codes " sum ") s ++ 10 ∷ [] ≡ species_text names os species
spread-is names os species a b s name is ia ib ic =
    ap (λ x. x ++ three (codes " least ") a (codes " greatest ") b (codes " sum ") s ++ 10 ∷ []) is
    ∙ (ap (λ x. slice_index_or names species [] ++ three (codes " least ") x (codes " greatest ") b (codes " sum ") s ++ 10 ∷ []) ia
    ∙ (ap (λ x. slice_index_or names species [] ++ three (codes " least ") (least (counts_in species os)) (codes " greatest ") x (codes " sum ") s ++ 10 ∷ []) ib
    ∙ (ap (λ x. slice_index_or names species [] ++ three (codes " least ") (least (counts_in species os)) (codes " greatest ") (greatest (counts_in species os)) (codes " sum ") x ++ 10 ∷ []) ic
    ∙ species-is names os species)))

module _ {X : Type 0} (f : X → List ℕ) (xs : List X) (i : ℕ) (d : X) (h : i < length xs) where
  -- the texts of one item more
  pub texts-more : flat_map f (take (i + 1) xs) ≡ flat_map f (take i xs) ++ f (get_or xs i d)
  texts-more = ap (flat_map f) (take_more xs i d h) ∙ flat_map-append f (take i xs) (get_or xs i d ∷ []) ∙ ap (λ t. flat_map f (take i xs) ++ t) (append-nil (f (get_or xs i d)))

  -- the texts before, this one, and the others
  pub texts-within : (flat_map f (take i xs) ++ f (get_or xs i d)) ++ flat_map f (drop (i + 1) xs) ≡ flat_map f xs
  texts-within =
      ap (λ t. t ++ flat_map f (drop (i + 1) xs)) (sym texts-more) ∙ sym (flat_map-append f (take (i + 1) xs) (drop (i + 1) xs)) ∙ ap (flat_map f) (take-append-drop (i + 1) xs)
