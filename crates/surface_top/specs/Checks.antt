-- What `check` says of a manifest.
use Rattle.std.specs.Prelude.{ℕ, List, [], ◌∷◌, ◌++◌, length, decimal, codes}
use Rattle.manifest_read.specs.declared.manifest.Manifest.{Manifest}
use Rattle.manifest_read.specs.Settings.{kind_text, bool_text}

-- the lattice: <rows> <cols> <lattice> <wrap>
unfoldable pub lattice_text : ℕ → ℕ → List ℕ → List ℕ → List ℕ
lattice_text rows cols kind wrap = codes "ok " ++ decimal rows ++ codes " " ++ decimal cols ++ codes " " ++ kind ++ codes " " ++ wrap

-- the numbers of species and rules, and the duration in ticks
unfoldable pub sizes_text : ℕ → ℕ → ℕ → List ℕ
sizes_text species rules until = codes " " ++ decimal species ++ codes " " ++ decimal rules ++ codes " " ++ decimal until ++ 10 ∷ []

-- ok <rows> <cols> <lattice> <wrap> <species> <rules> <until>
abbrev pub check_text : Manifest → List ℕ
check_text m =
    lattice_text m.lattice.rows m.lattice.cols (kind_text m.lattice.kind) (bool_text m.lattice.wrap)
    ++ sizes_text (length m.names) (length m.rules) m.until
