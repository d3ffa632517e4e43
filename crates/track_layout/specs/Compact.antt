-- A circuit compiled on its tracks.
use Rattle.std.specs.Prelude.{◌≡◌, ℕ, ◌^◌, ◌≤◌, List, length, Bool}
use Rattle.circuit_text.specs.Circuits.{NetList}
use Rattle.circuit_text.specs.Values.{values_of}
use Rattle.gate_layout.specs.Table.{IsWellFormed}
use Rattle.manifest_read.specs.declared.manifest.Manifest.{Manifest}
use Rattle.manifest_read.specs.Manifest.{IsValid}
use Rattle.manifest_write.specs.Canon.{canonical_text}
use Rattle.crn_compile.specs.Compiled.{IsCompiled, compiled_manifest}
use Rattle.crn_compile.specs.Settled.{Settles, RunsOut}
use Rattle.track_layout.specs.Tracks.{compact_table, site_count}
use Rattle.track_layout.specs.Turns.{tracks_of}

-- all that is known of a compiled circuit, on the table of its tracks
pub record IsCompact (c : NetList) (inputs : List Bool) (m : Manifest) : Type 0 where
  pub room : site_count (tracks_of c) ≤ 2 ^ 20
  pub formed : IsWellFormed c (compact_table (tracks_of c))
  pub exact : m ≡ compiled_manifest c inputs (compact_table (tracks_of c))
  pub compiled : IsCompiled c inputs (compact_table (tracks_of c)) m
  pub valid : IsValid m
  pub short : length (canonical_text m) ≤ 67108864
  pub settles : Settles c (values_of c.nets inputs) (compact_table (tracks_of c)) m.cells
  pub runs : (seed : ℕ) → RunsOut c (values_of c.nets inputs) (compact_table (tracks_of c)) m.cells seed (10 ^ 15)
