-- The text of an ensemble: a line for each outcome, their totals, and a line for each species.
use Rattle.std.specs.Prelude.{ℕ, List, [], ◌∷◌, ◌++◌, length, map, sum, count_by, fold, min, max, Bool, true, false, decimal, codes, slice_index_or}
use Rattle.std.specs.List.{flat_map, range_with_len}
use Rattle.ensemble.specs.declared.outcome.Outcome.{Outcome}

-- the count of a species
abbrev pub count_in : ℕ → Outcome → ℕ
count_in species o = slice_index_or o.counts species 0

-- its counts in all outcomes
abbrev pub counts_in : ℕ → List Outcome → List ℕ
counts_in species os = map (count_in species) os

-- the least of numbers, and the greatest; 0 where there are none
abbrev pub least : List ℕ → ℕ
least [] = 0
least (n ∷ ns) = fold min n ns

abbrev pub greatest : List ℕ → ℕ
greatest ns = fold max 0 ns

-- <name>:<count>, with a space before it
unfoldable pub count_text : List (List ℕ) → Outcome → ℕ → List ℕ
count_text names o species = 32 ∷ slice_index_or names species [] ++ 58 ∷ decimal (count_in species o)

-- the end of a line: whether its run was cut at the limit
abbrev pub end_text : Bool → List ℕ
end_text true = 10 ∷ []
end_text false = codes " limit" ++ 10 ∷ []

-- seed <seed> events <events> last <tick> <name>:<count> .., with every species in its order, and limit where the run was cut
unfoldable pub outcome_text : List (List ℕ) → Outcome → List ℕ
outcome_text names o =
    (codes "seed " ++ decimal o.seed ++ codes " events " ++ decimal o.events ++ codes " last " ++ decimal o.last)
    ++ flat_map (count_text names o) (range_with_len 0 (length names)) ++ end_text o.ended

-- total seeds <number> ended <number> events <sum>
unfoldable pub total_text : List Outcome → List ℕ
total_text os =
    codes "total seeds " ++ decimal (length os) ++ codes " ended " ++ decimal (count_by (λ o. o.ended) os)
    ++ codes " events " ++ decimal (sum (map (λ o. o.events) os)) ++ 10 ∷ []

-- <name> least <count> greatest <count> sum <sum>
unfoldable pub species_text : List (List ℕ) → List Outcome → ℕ → List ℕ
species_text names os species =
    slice_index_or names species [] ++ codes " least " ++ decimal (least (counts_in species os))
    ++ codes " greatest " ++ decimal (greatest (counts_in species os)) ++ codes " sum " ++ decimal (sum (counts_in species os)) ++ 10 ∷ []

-- the total, and a line for each species
abbrev pub totals_text : List (List ℕ) → List Outcome → List ℕ
totals_text names os = total_text os ++ flat_map (species_text names os) (range_with_len 0 (length names))

-- the whole text
abbrev pub ensemble_text : List (List ℕ) → List Outcome → List ℕ
ensemble_text names os = flat_map (outcome_text names) os ++ totals_text names os
