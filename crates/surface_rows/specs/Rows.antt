-- The rows of a surface as text: the names of the species that stand there.
use Rattle.std.specs.Prelude.{ℕ, ◌*◌, List, [], ◌∷◌, ◌++◌, map, take, drop, slice_index_or}
use Rattle.std.specs.List.{flat_map, range_with_len}
use Rattle.surf_kinds.specs.declared.site.SpeciesId.{SpeciesId}

-- the sites of a row: so many columns from its first on
abbrev pub row_at : {A : Type 0} → ℕ → List A → ℕ → List A
row_at cols sites row = take cols (drop (row * cols) sites)

-- names with one space between
abbrev pub spaced : List (List ℕ) → List ℕ
spaced [] = []
spaced (name ∷ names) = name ++ flat_map (λ n. 32 ∷ n) names

-- the name of a species
abbrev pub name_of : List (List ℕ) → SpeciesId → List ℕ
name_of names id = slice_index_or names id.0 []

-- the line of a row
abbrev pub row_line : List (List ℕ) → ℕ → List SpeciesId → ℕ → List ℕ
row_line names cols cells row = spaced (map (name_of names) (row_at cols cells row))

-- the lines of all rows
abbrev pub row_lines : List (List ℕ) → ℕ → ℕ → List SpeciesId → List (List ℕ)
row_lines names rows cols cells = map (row_line names cols cells) (range_with_len 0 rows)

-- a text of lines, each ended by a line feed
abbrev pub lines_text : List (List ℕ) → List ℕ
lines_text lines = flat_map (λ line. line ++ 10 ∷ []) lines

-- the text of the rows
unfoldable pub rows_text : List (List ℕ) → ℕ → ℕ → List SpeciesId → List ℕ
rows_text names rows cols cells = lines_text (row_lines names rows cols cells)
