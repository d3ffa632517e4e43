-- What every manifest that was read keeps to.
use Rattle.std.specs.Prelude.{◌≡◌, ℕ, ◌*◌, ◌^◌, ◌<◌, ◌≤◌, length}
use Rattle.std.specs.List.{All}
use Rattle.surf_kinds.specs.declared.rule.Rule.{Rule}
use Rattle.surf_kinds.specs.declared.rule.Rule.TheVariants.{One, Two}
use Rattle.surf_kinds.specs.declared.site.SpeciesId.{SpeciesId}
use Rattle.lattice.specs.Shape.{IsSize}
use Rattle.manifest_read.specs.declared.manifest.Manifest.{Manifest}

-- the number is one of so many species
abbrev pub IsKnown : ℕ → SpeciesId → Type 0
IsKnown count species = species.0 < count

-- the rule speaks of so many species
abbrev pub IsKnownRule : ℕ → Rule → Type 0
IsKnownRule count (One rate a c) = IsKnown count a × IsKnown count c
IsKnownRule count (Two rate a b c d) = IsKnown count a × IsKnown count b × IsKnown count c × IsKnown count d

-- each site has a species that is named, and no count is above its limit
pub record IsSound (m : Manifest) : Type 0 where
  pub size : IsSize m.lattice.rows m.lattice.cols
  pub cell_count : length m.cells ≡ m.lattice.rows * m.lattice.cols
  pub cells : All (IsKnown (length m.names)) m.cells
  pub rules : All (IsKnownRule (length m.names)) m.rules
  pub rule_count : length m.rules ≤ 4096
  pub name_count : length m.names ≤ 4096
  pub until : m.until ≤ 10 ^ 15
