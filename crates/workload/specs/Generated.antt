-- The manifest of a number.
use Rattle.std.specs.Prelude.{ℕ, ◌+◌, ◌*◌, ◌/◌, ◌%◌, ◌==◌, List, [], ◌∷◌, map, None, true, if◌then◌else◌, codes}
use Rattle.std.specs.List.{range_with_len}
use Rattle.surf_kinds.specs.Rates.{Fraction}
use Rattle.surf_kinds.specs.declared.rule.Rule.{Rule}
use Rattle.surf_kinds.specs.declared.rule.Rule.TheVariants.{Two, One}
use Rattle.surf_kinds.specs.declared.site.SpeciesId.{SpeciesId}
use Rattle.lattice.specs.declared.grid.Kind.TheVariants.{Square}
use Rattle.manifest_read.specs.declared.manifest.Manifest.{Manifest}

-- the number of rows, and of columns
abbrev pub side_of : ℕ → ℕ
side_of n = 8 + 8 * (n % 8)

-- the species by their numbers: A, O, B and C
abbrev pub A : SpeciesId
A = record { 0 = 0 }

abbrev pub O : SpeciesId
O = record { 0 = 1 }

abbrev pub B : SpeciesId
B = record { 0 = 2 }

abbrev pub C : SpeciesId
C = record { 0 = 3 }

abbrev pub species_names : List (List ℕ)
species_names = codes "A" ∷ codes "O" ∷ codes "B" ∷ codes "C" ∷ []

-- 1 / q
abbrev pub one_over : ℕ → Fraction
one_over q = record { p = 1; q = q }

-- A and B walk over empty sites, two that meet become C, and C decays
abbrev pub generated_rules : List Rule
generated_rules = Two (one_over 1) A O O A ∷ Two (one_over 1) B O O B ∷ Two (one_over 2) A B C C ∷ One (one_over 4) C A ∷ []

abbrev pub species_by : ℕ → SpeciesId
species_by k = if k == 0 then A else (if k == 1 then B else (if k == 2 then C else O))

-- the species in a row and a column
abbrev pub species_in : ℕ → ℕ → ℕ → SpeciesId
species_in n row col = species_by ((7 * row + 13 * col + n) % 5)

abbrev pub species_at : ℕ → ℕ → ℕ → SpeciesId
species_at n side site = species_in n (site / side) (site % side)

abbrev pub cells_on : ℕ → ℕ → List SpeciesId
cells_on n side = map (species_at n side) (range_with_len 0 (side * side))

-- on so many rows and columns
abbrev pub manifest_on : ℕ → ℕ → Manifest
manifest_on n side = record {
  seed = n;
  until = 20000000;
  lattice = record { kind = Square; rows = side; cols = side; wrap = true };
  others = [];
  names = species_names;
  rules = generated_rules;
  cells = cells_on n side;
  colours = None;
}

-- the manifest of a number
abbrev pub generated_manifest : ℕ → Manifest
generated_manifest n = manifest_on n (side_of n)
