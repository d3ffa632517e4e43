-- The layout of a circuit: each net has a track of its own, along which it runs through all columns. With N nets and G
-- gates there are 2N + 2 rows and 6G + 3 columns.
use Rattle.std.specs.Prelude.{ℕ, ◌+◌, ◌*◌, List, length, Option, Some}
use Rattle.circuit_text.specs.declared.kinds.Net.{Net}
use Rattle.circuit_text.specs.Circuits.{NetList}
use Rattle.gate_layout.specs.declared.role.Role.{Role}
use Rattle.gate_layout.specs.Table.{Spot, Table}
use Rattle.gate_layout.specs.Placed.{Placement, role_on, feeder_on, rank_on, rows_on, col_count, input_cell_on, output_cell_on, table_on}

-- net n has track n
abbrev pub closed : List Net → Placement
closed nets = record { tracks = length nets; track = λ n. n; runs = λ k col. Some k }

abbrev pub row_count : List Net → ℕ
row_count nets = 2 * length nets + 2

abbrev pub site_count : List Net → ℕ
site_count nets = row_count nets * col_count nets

-- the role of a cell
abbrev pub role_of : List Net → ℕ → ℕ → Role
role_of nets = role_on (closed nets) nets

-- the feeder and the rank of a half
abbrev pub feeder_of : List Net → ℕ → ℕ → ℕ → Option Spot
feeder_of nets = feeder_on (closed nets) nets

abbrev pub rank_of : List Net → ℕ → ℕ → ℕ → ℕ
rank_of nets = rank_on (closed nets) nets

abbrev pub input_cell : List Net → ℕ → Spot
input_cell nets = input_cell_on (closed nets) nets

abbrev pub output_cell : NetList → ℕ → Spot
output_cell c = output_cell_on (closed c.nets) c

abbrev pub layout : NetList → Table
layout c = table_on (closed c.nets) c
