-- The rows of a list of cells.
use Rattle.std.proofs.Common.{◌≡◌, ℕ, zero, suc, ◌+◌, ◌*◌, ◌≤◌, List, [], ◌∷◌, ◌++◌, map, length, take, drop, sym, ap, ◌∙◌, arith, take-add, drop-drop, take_all, length-drop, length-take-le, mul-le-mul_right}
use Rattle.std.specs.List.{flat_map, range_with_len, AllByRecursion, take-map, drop-map}
use Rattle.surface_rows.specs.Rows.{row_at}

abbrev pub rows_of : {A : Type 0} → ℕ → ℕ → List A → List (List A)
rows_of rows cols cells = map (row_at cols cells) (range_with_len 0 rows)

module _ {A : Type 0} (cols : ℕ) (cells : List A) where
  rows-joined : (n a : ℕ) → flat_map (λ (row : List A). row) (map (row_at cols cells) (range_with_len a n)) ≡ take (n * cols) (drop (a * cols) cells)
  rows-joined zero a = let e : 0 * cols ≡ 0 = omega arith in sym (ap (λ k. take k (drop (a * cols) cells)) e)
  rows-joined (suc n) a =
      let size : suc n * cols ≡ cols + n * cols = omega arith in
      let place : a * cols + cols ≡ (a + 1) * cols = omega arith in
      ap (λ t. take cols (drop (a * cols) cells) ++ t) (rows-joined n (a + 1) ∙ ap (λ k. take (n * cols) (drop k cells)) (sym place) ∙ ap (take (n * cols)) (sym (drop-drop cols (a * cols) cells)))
      ∙ sym (take-add cols (n * cols) (drop (a * cols) cells)) ∙ ap (λ k. take k (drop (a * cols) cells)) (sym size)

  pub rows-all : (rows : ℕ) → length cells ≡ rows * cols → flat_map (λ (row : List A). row) (rows_of rows cols cells) ≡ cells
  rows-all rows h = rows-joined rows 0 ∙ (let e : 0 * cols ≡ 0 = omega arith in ap (λ k. take (rows * cols) (drop k cells)) e) ∙ take_all (rows * cols) cells (omega (arith, h))

  module _ (P : List A → Type 0) (each : (i : ℕ) → length (row_at cols cells i) ≡ cols → P (row_at cols cells i)) where
    rows-from : (rows n a : ℕ) → length cells ≡ rows * cols → a + n ≤ rows → AllByRecursion P (map (row_at cols cells) (range_with_len a n))
    rows-from rows zero a h l = tt
    rows-from rows (suc n) a h l =
        let within : (a + 1) * cols ≤ rows * cols = mul-le-mul_right cols (omega arith) in
        let place : a * cols + cols ≡ (a + 1) * cols = omega arith in
        let left : cols ≤ length (drop (a * cols) cells) = omega (arith, h, within, place, length-drop (a * cols) cells) in
        (each a (length-take-le cols (drop (a * cols) cells) left), rows-from rows n (a + 1) h (omega arith))

    pub rows-each : (rows : ℕ) → length cells ≡ rows * cols → AllByRecursion P (rows_of rows cols cells)
    rows-each rows h = rows-from rows rows 0 h (omega arith)

module _ {A : Type 0} (P : A → Type 0) where
  pub all-drop : (n : ℕ) (xs : List A) → AllByRecursion P xs → AllByRecursion P (drop n xs)
  all-drop zero xs h = h
  all-drop (suc n) [] h = h
  all-drop (suc n) (x ∷ xs) h = all-drop n xs h.1

  pub all-take : (n : ℕ) (xs : List A) → AllByRecursion P xs → AllByRecursion P (take n xs)
  all-take zero xs h = tt
  all-take (suc n) [] h = h
  all-take (suc n) (x ∷ xs) h = (h.0, all-take n xs h.1)

pub map-row : {A B : Type 0} (f : A → B) (cols : ℕ) (xs : List A) (row : ℕ) → map f (row_at cols xs row) ≡ row_at cols (map f xs) row
map-row f cols xs row = sym (take-map f cols (drop (row * cols) xs)) ∙ ap (take cols) (sym (drop-map f (row * cols) xs))
