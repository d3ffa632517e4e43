-- Texts made of parts that are numbered from 0.
use Rattle.std.specs.Prelude.{ℕ, List}
use Rattle.std.specs.List.{flat_map, range_with_len}

-- the first n parts
abbrev pub parts : (ℕ → List ℕ) → ℕ → List ℕ
parts part n = flat_map part (range_with_len 0 n)
