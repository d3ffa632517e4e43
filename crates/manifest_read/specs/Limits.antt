-- The limits that the content of lines without a fault is within.
use Rattle.std.specs.Prelude.{◌≡◌, ℕ, ◌*◌, ◌≤◌, List, [], ◌∷◌, length, None}
use Rattle.std.specs.List.{flat_map}
use Rattle.manifest_read.specs.Names.{AreListed}
use Rattle.manifest_read.specs.Rules.{names_of_rule}
use Rattle.manifest_read.specs.Manifest.{Line, Content, verdict}

-- no line has a fault; they stand with the nearest first
abbrev pub IsAccepted : List Line → Type 0
IsAccepted [] = Unit {0}
IsAccepted (line ∷ before) = (verdict before line ≡ None) × IsAccepted before

-- the rows and columns
pub record Area (rows cols sites : ℕ) : Type 0 where
  pub is : sites ≡ rows * cols
  pub full : 1 ≤ rows → 1 ≤ cols

-- no count is above its limit, and all names are listed
pub record IsWithin (t : Content) : Type 0 where
  pub area : Area t.rows t.cols (length t.cells)
  pub sites : length t.cells ≤ 1048576
  pub rule_count : length t.rules ≤ 4096
  pub name_count : length t.names ≤ 4096
  pub in_rules : AreListed t.names (flat_map names_of_rule t.rules)
  pub in_cells : AreListed t.names t.cells
