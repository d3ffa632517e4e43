-- Texts made of parts that are numbered from 0, one part after the other.
use Rattle.std.proofs.Common.{◌≡◌, ℕ, zero, suc, ◌+◌, ◌-◌, ◌<◌, List, [], ◌∷◌, ◌++◌, map, sym, ap, ◌∙◌, append_assoc, append-nil, arith}
use Rattle.std.specs.List.{flat_map, range_with_len}
use Rattle.std.proofs.lemmas.List.Concat.{flat_map-append}
use Rattle.std.proofs.lemmas.List.Folds.{flat_map-map}
use Rattle.std.proofs.lemmas.List.FromFn.{map-range_with_len_more}
use Rattle.surf_outside.specs.Parts.{parts}

abbrev joined : List (List ℕ) → List ℕ
joined texts = flat_map (λ text. text) texts

-- one part more
pub parts-more : (part : ℕ → List ℕ) (n : ℕ) → parts part (n + 1) ≡ parts part n ++ part n
parts-more part n =
    sym (flat_map-map (λ text. text) part (range_with_len 0 (n + 1)))
    ∙ ap joined (map-range_with_len_more part 0 n n (omega arith))
    ∙ flat_map-append (λ text. text) (map part (range_with_len 0 n)) (part n ∷ [])
    ∙ ap (λ t. joined (map part (range_with_len 0 n)) ++ t) (append-nil (part n))
    ∙ ap (λ t. t ++ part n) (flat_map-map (λ text. text) part (range_with_len 0 n))

-- more parts begin with fewer
parts-longer : (part : ℕ → List ℕ) (n k : ℕ) → (rest : List ℕ) × (parts part (n + k) ≡ parts part n ++ rest)
parts-longer part n zero =
    let e : n + 0 ≡ n = omega arith in
    ([], ap (parts part) e ∙ sym (append-nil (parts part n)))
parts-longer part n (suc k) =
    let deep = parts-longer part n k in
    let e : n + suc k ≡ (n + k) + 1 = omega arith in
    (deep.0 ++ part (n + k), ap (parts part) e ∙ parts-more part (n + k) ∙ ap (λ t. t ++ part (n + k)) deep.1 ∙ append_assoc (parts part n) deep.0 (part (n + k)))

-- with part n and what comes after it
pub parts-within : (part : ℕ → List ℕ) (n m : ℕ) → n < m → (rest : List ℕ) × (parts part m ≡ (parts part n ++ part n) ++ rest)
parts-within part n m h =
    let deep = parts-longer part (n + 1) (m - (n + 1)) in
    let e : m ≡ (n + 1) + (m - (n + 1)) = omega (arith, h) in
    (deep.0, ap (parts part) e ∙ deep.1 ∙ ap (λ t. t ++ deep.0) (parts-more part n))
