-- The manifest of a circuit on a table of roles.
use Rattle.std.specs.Prelude.{◌≡◌, ℕ, ◌^◌, List, [], None, Bool}
use Rattle.manifest_read.specs.declared.manifest.Manifest.{Manifest}
use Rattle.circuit_text.specs.Circuits.{NetList}
use Rattle.gate_layout.specs.Table.{Table}
use Rattle.crn_compile.specs.Species.{circuit_rules}
use Rattle.surf_kinds.specs.declared.site.SpeciesId.{SpeciesId}
use Rattle.crn_compile.specs.Start.{flat, shape_of, IsStart, start_cells}
use Rattle.crn_compile.specs.Names.{names_for}

-- seed 0, a duration of 10 ^ 9 units, no other settings and no colours
pub record IsCompiled (c : NetList) (inputs : List Bool) (t : Table) (m : Manifest) : Type 0 where
  pub seed : m.seed ≡ 0
  pub until : m.until ≡ 10 ^ 15
  pub lattice : m.lattice ≡ shape_of t
  pub others : m.others ≡ []
  pub names : m.names ≡ names_for m.cells
  pub rules : m.rules ≡ circuit_rules
  pub cells : IsStart c.nets inputs t m.cells
  pub colours : m.colours ≡ None

-- with these species on so many rows and columns
abbrev pub manifest_on : ℕ → ℕ → List SpeciesId → Manifest
manifest_on rows cols S = record {
  seed = 0;
  until = 10 ^ 15;
  lattice = flat rows cols;
  others = [];
  names = names_for S;
  rules = circuit_rules;
  cells = S;
  colours = None;
}

-- the manifest of a circuit on a table
abbrev pub compiled_manifest : NetList → List Bool → Table → Manifest
compiled_manifest c inputs t = manifest_on t.rows t.cols (start_cells c.nets inputs t)
