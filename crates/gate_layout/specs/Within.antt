-- The tracks and gates of rows and columns are there.
use Rattle.std.specs.Prelude.{ℕ, List, ◌<◌, length, ⊤}
use Rattle.circuit_text.specs.declared.kinds.Net.{Net}
use Rattle.gate_layout.specs.declared.parts.Column.{Column}
use Rattle.gate_layout.specs.declared.parts.Column.TheVariants.{Outside, Of}
use Rattle.gate_layout.specs.declared.parts.Row.{Row}
use Rattle.gate_layout.specs.declared.parts.Row.TheVariants.{TrackRow, Between, Pins, Bottom}
use Rattle.gate_layout.specs.Nets.{gate_count}

abbrev pub IsColumnOf : List Net → Column → Type 0
IsColumnOf nets Outside = ⊤
IsColumnOf nets (Of g p) = g < gate_count nets

abbrev pub IsRowOf : ℕ → Row → Type 0
IsRowOf tracks (TrackRow k) = k < tracks
IsRowOf tracks (Between k) = k < tracks
IsRowOf tracks Pins = ⊤
IsRowOf tracks Bottom = ⊤
