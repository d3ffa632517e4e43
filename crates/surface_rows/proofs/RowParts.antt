-- The rows, one after the other.
use Rattle.std.proofs.Common.{◌≡◌, ℕ, ◌+◌, ◌-◌, ◌*◌, ◌<◌, List, [], ◌∷◌, ◌++◌, take, drop, sym, ap, ◌∙◌, refl, arith}
use Rattle.std.specs.List.{range_with_len}
use Rattle.std.proofs.lemmas.List.Folds.{flat_map-map}
use Rattle.surf_kinds.specs.declared.site.SpeciesId.{SpeciesId}
use Rattle.surface_rows.specs.Rows.{row_at, row_line, rows_text}
use Rattle.surf_outside.specs.Parts.{parts}
use Rattle.surf_outside.proofs.LawLemmas.{parts-more, parts-within}

-- the line of a row, with its line feed
abbrev pub line_part : List (List ℕ) → ℕ → List SpeciesId → ℕ → List ℕ
line_part names cols cells row = row_line names cols cells row ++ 10 ∷ []

pub rows-are : (names : List (List ℕ)) (rows cols : ℕ) (cells : List SpeciesId) → rows_text names rows cols cells ≡ parts (line_part names cols cells) rows
unfolding rows_text
rows-are names rows cols cells = flat_map-map (λ line. line ++ 10 ∷ []) (row_line names cols cells) (range_with_len 0 rows)

pub rows-none : (names : List (List ℕ)) (cols : ℕ) (cells : List SpeciesId) → [] ≡ rows_text names 0 cols cells
unfolding rows_text
rows-none names cols cells = refl

pub rows-more : (names : List (List ℕ)) (rows cols : ℕ) (cells : List SpeciesId) → rows_text names rows cols cells ++ line_part names cols cells rows ≡ rows_text names (rows + 1) cols cells
rows-more names rows cols cells =
    ap (λ t. t ++ line_part names cols cells rows) (rows-are names rows cols cells)
    ∙ sym (parts-more (line_part names cols cells) rows)
    ∙ sym (rows-are names (rows + 1) cols cells)

pub rows-within : (names : List (List ℕ)) (row rows cols : ℕ) (cells : List SpeciesId) → row < rows
    → (rest : List ℕ) × ((rows_text names row cols cells ++ line_part names cols cells row) ++ rest ≡ rows_text names rows cols cells)
rows-within names row rows cols cells h =
    let p = parts-within (line_part names cols cells) row rows h in (
      p.0,
      ap (λ t. (t ++ line_part names cols cells row) ++ p.0) (rows-are names row cols cells)
          ∙ sym p.1
          ∙ sym (rows-are names rows cols cells),
    )

-- the cells of a row, as a slice has them
pub row-is : (cells : List SpeciesId) (row cols : ℕ) → take (row * cols + cols - row * cols) (drop (row * cols) cells) ≡ row_at cols cells row
row-is cells row cols =
    let e : row * cols + cols - row * cols ≡ cols = omega arith in
    ap (λ k. take k (drop (row * cols) cells)) e
