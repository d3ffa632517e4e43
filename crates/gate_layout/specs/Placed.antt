-- A circuit laid out on tracks: rows along which nets run, each from its source on, with six columns for each gate. With
-- T tracks and G gates there are 2T + 2 rows and 6G + 3 columns. Which net has which track, and how far it runs, is left
-- to a placement.
use Rattle.std.specs.Prelude.{◌≡◌, ℕ, zero, suc, ◌+◌, ◌-◌, ◌*◌, ◌/◌, ◌%◌, ◌<◌, ◌≤◌, ◌⊎◌, List, length, Option, Some, None, ◌==◌, nat_lt, nat_le, if◌then◌else◌, slice_get, get_or}
use Rattle.std.specs.Option.{option_map}
use Rattle.circuit_text.specs.declared.kinds.Net.{Net}
use Rattle.circuit_text.specs.declared.kinds.Net.TheVariants as net
use Rattle.circuit_text.specs.Values.{input_count}
use Rattle.circuit_text.specs.Circuits.{NetList}
use Rattle.gate_layout.specs.declared.role.Role.{Role}
use Rattle.gate_layout.specs.declared.role.Role.TheVariants.{Inert, Wire, Vert, PinA, PinB, Cross, Gate}
use Rattle.gate_layout.specs.declared.parts.Part.{Part}
use Rattle.gate_layout.specs.declared.parts.Part.TheVariants.{FirstPin, Body, SecondPin, Bend, Rise, Gap}
use Rattle.gate_layout.specs.declared.parts.Column.{Column}
use Rattle.gate_layout.specs.declared.parts.Column.TheVariants.{Outside, Of}
use Rattle.gate_layout.specs.declared.parts.Row.{Row}
use Rattle.gate_layout.specs.declared.parts.Row.TheVariants.{TrackRow, Between, Pins, Bottom}
use Rattle.gate_layout.specs.declared.parts.Side.{Side}
use Rattle.gate_layout.specs.declared.parts.Side.TheVariants.{North, East, South, West}
use Rattle.gate_layout.specs.Nets.{gate_count, net_of, gate_at, operand_a, operand_b, input_net}
use Rattle.gate_layout.specs.Table.{Spot, Table, halves}

-- how many tracks there are, the track of each net, and the net that runs at a column of a track, where one does
pub record Placement : Type 0 where
  pub tracks : ℕ
  pub track : ℕ → ℕ
  pub runs : ℕ → ℕ → Option ℕ

-- Rows and columns

-- gate g has the columns 6g + 1 to 6g + 6, by their parts
abbrev pub part_of : ℕ → Part
part_of zero = FirstPin
part_of (suc zero) = Body
part_of (suc (suc zero)) = SecondPin
part_of (suc (suc (suc zero))) = Bend
part_of (suc (suc (suc (suc zero)))) = Rise
part_of j = Gap

abbrev pub column_of : ℕ → ℕ → Column
column_of gates zero = Outside
column_of gates (suc k) = if nat_lt k (6 * gates) then Of (k / 6) (part_of (k % 6)) else Outside

-- track k has the row 2k; below it is the row 2k + 1, and below all of them are the pins and the last row
abbrev pub row_of : ℕ → ℕ → Row
row_of tracks r = if nat_lt r (2 * tracks) then (if r % 2 == 0 then TrackRow (r / 2) else Between (r / 2)) else (if r == 2 * tracks then Pins else Bottom)

-- the net of a column, which runs in it: an operand of its gate or the gate's own net
abbrev pub column_net : List Net → Column → Option ℕ
column_net nets (Of g FirstPin) = operand_a nets g
column_net nets (Of g SecondPin) = operand_b nets g
column_net nets (Of g Rise) = Some (net_of nets g)
column_net nets other = None

-- Roles

-- the row of a track carries the net that runs there, over the nets of columns that come from tracks above it
abbrev pub net_role : Placement → ℕ → Option ℕ → Option ℕ → Role
net_role p k (Some n) None = Wire n
net_role p k (Some n) (Some t) = if nat_lt (p.track t) k then Cross n t else Wire n
net_role p k None None = Inert
net_role p k None (Some t) = if nat_lt (p.track t) k then Vert t else Inert

-- below its own track the net of a column is vertical
abbrev pub between_role : Placement → ℕ → Option ℕ → Role
between_role p k None = Inert
between_role p k (Some t) = if nat_le (p.track t) k then Vert t else Inert

abbrev pub pin_a : Option ℕ → Role
pin_a None = Inert
pin_a (Some n) = PinA n

abbrev pub pin_b : Option ℕ → Role
pin_b None = Inert
pin_b (Some n) = PinB n

abbrev pub pins_role : List Net → Column → Role
pins_role nets (Of g FirstPin) = pin_a (operand_a nets g)
pins_role nets (Of g Body) = Gate g
pins_role nets (Of g SecondPin) = pin_b (operand_b nets g)
pins_role nets (Of g Rise) = Vert (net_of nets g)
pins_role nets other = Inert

-- the last row leads from the body of a gate to its rise
abbrev pub bottom_role : List Net → Column → Role
bottom_role nets (Of g Body) = Wire (net_of nets g)
bottom_role nets (Of g SecondPin) = Wire (net_of nets g)
bottom_role nets (Of g Bend) = Wire (net_of nets g)
bottom_role nets (Of g Rise) = Wire (net_of nets g)
bottom_role nets other = Inert

abbrev pub role_in : Placement → List Net → Row → Column → ℕ → Role
role_in p nets (TrackRow k) c col = net_role p k (p.runs k col) (column_net nets c)
role_in p nets (Between k) c col = between_role p k (column_net nets c)
role_in p nets Pins c col = pins_role nets c
role_in p nets Bottom c col = bottom_role nets c

-- the role of a cell
unfoldable pub role_on : Placement → List Net → ℕ → ℕ → Role
role_on p nets r c = role_in p nets (row_of p.tracks r) (column_of (gate_count nets) c) c

-- Feeders

-- the column at which a net comes into its row: the first one for an input, else the rise of its gate
abbrev pub source_in : List Net → ℕ → Option Net → ℕ
source_in nets n (Some (net.Gate op a b)) = 6 * gate_at nets n + 5
source_in nets n other = 0

abbrev pub source : List Net → ℕ → ℕ
source nets n = source_in nets n (slice_get nets n)

-- there an input begins, and a gate's net comes from below
abbrev pub source_side : Option Net → Option Side
source_side (Some (net.Gate op a b)) = Some South
source_side other = None

-- along its row a net runs away from that column
abbrev pub row_side : List Net → ℕ → ℕ → Option Side
row_side nets n col =
    if nat_lt col (source nets n) then Some East
    else (if nat_lt (source nets n) col then Some West else source_side (slice_get nets n))

-- a rise leads up, and the other columns lead down
abbrev pub column_side : Column → Side
column_side (Of g Rise) = South
column_side c = North

abbrev pub net_side : List Net → Option ℕ → Column → ℕ → ℕ → Option Side
net_side nets None c col half = Some (column_side c)
net_side nets (Some n) c col zero = row_side nets n col
net_side nets (Some n) c col (suc half) = Some (column_side c)

-- a gate has its pins beside it
abbrev pub body_side : ℕ → Side
body_side zero = West
body_side (suc half) = East

abbrev pub pins_side : Column → ℕ → Side
pins_side (Of g Body) half = body_side half
pins_side c half = column_side c

abbrev pub bottom_side : Column → Side
bottom_side (Of g Body) = North
bottom_side c = West

-- on which side of a half that a role has its feeder is; an input cell has none
abbrev pub side_in : Placement → List Net → Row → Column → ℕ → ℕ → Option Side
side_in p nets (TrackRow k) c col half = net_side nets (p.runs k col) c col half
side_in p nets (Between k) c col half = Some (column_side c)
side_in p nets Pins c col half = Some (pins_side c half)
side_in p nets Bottom c col half = Some (bottom_side c)

abbrev pub neighbour : ℕ → ℕ → Side → Spot
neighbour r c North = record { row = r - 1; col = c }
neighbour r c East = record { row = r; col = c + 1 }
neighbour r c South = record { row = r + 1; col = c }
neighbour r c West = record { row = r; col = c - 1 }

-- on which side the feeder of a half is, where the role has that half
abbrev pub side_on : Placement → List Net → ℕ → ℕ → ℕ → Option Side
side_on p nets r c half = if nat_lt half (halves nets (role_on p nets r c)) then side_in p nets (row_of p.tracks r) (column_of (gate_count nets) c) c half else None

-- the feeder of a half
unfoldable pub feeder_on : Placement → List Net → ℕ → ℕ → ℕ → Option Spot
feeder_on p nets r c half = option_map (neighbour r c) (side_on p nets r c half)

-- Ranks

-- A net's halves come after those of all lower nets, and then in the order in which the net runs: the gate, the
-- last row, the rise, the row of the net from its source on, the columns down, the pins.

unfoldable pub stride : Placement → List Net → ℕ
stride p nets = 4 * p.tracks + 6 * gate_count nets + 20

-- so many steps after the gate
abbrev pub rank_at : Placement → List Net → ℕ → ℕ → ℕ
rank_at p nets n steps = n * stride p nets + steps

abbrev pub distance : ℕ → ℕ → ℕ
distance a b = (a - b) + (b - a)

abbrev pub up_steps : Placement → ℕ → ℕ
up_steps p r = 5 + (2 * p.tracks - r)

abbrev pub row_steps : Placement → List Net → ℕ → ℕ → ℕ
row_steps p nets n col = 2 * p.tracks + 8 + distance col (source nets n)

abbrev pub down_steps : Placement → List Net → ℕ → ℕ
down_steps p nets r = 2 * p.tracks + 6 * gate_count nets + 12 + r

abbrev pub down_rank : Placement → List Net → Option ℕ → ℕ → ℕ
down_rank p nets None r = 0
down_rank p nets (Some t) r = rank_at p nets t (down_steps p nets r)

abbrev pub column_rank : Placement → List Net → Column → ℕ → ℕ
column_rank p nets (Of g Rise) r = rank_at p nets (net_of nets g) (up_steps p r)
column_rank p nets c r = down_rank p nets (column_net nets c) r

abbrev pub net_rank : Placement → List Net → Option ℕ → Column → ℕ → ℕ → ℕ → ℕ
net_rank p nets None c r col half = column_rank p nets c r
net_rank p nets (Some n) c r col zero = rank_at p nets n (row_steps p nets n col)
net_rank p nets (Some n) c r col (suc half) = column_rank p nets c r

abbrev pub pins_rank : Placement → List Net → Column → ℕ → ℕ
pins_rank p nets (Of g Body) r = rank_at p nets (net_of nets g) 0
pins_rank p nets c r = column_rank p nets c r

abbrev pub bottom_rank : Placement → List Net → Column → ℕ
bottom_rank p nets (Of g Body) = rank_at p nets (net_of nets g) 1
bottom_rank p nets (Of g SecondPin) = rank_at p nets (net_of nets g) 2
bottom_rank p nets (Of g Bend) = rank_at p nets (net_of nets g) 3
bottom_rank p nets (Of g Rise) = rank_at p nets (net_of nets g) 4
bottom_rank p nets c = 0

abbrev pub rank_in : Placement → List Net → Row → Column → ℕ → ℕ → ℕ → ℕ
rank_in p nets (TrackRow k) c r col half = net_rank p nets (p.runs k col) c r col half
rank_in p nets (Between k) c r col half = column_rank p nets c r
rank_in p nets Pins c r col half = pins_rank p nets c r
rank_in p nets Bottom c r col half = bottom_rank p nets c

-- the rank of a half
unfoldable pub rank_on : Placement → List Net → ℕ → ℕ → ℕ → ℕ
rank_on p nets r c half = rank_in p nets (row_of p.tracks r) (column_of (gate_count nets) c) r c half

-- The table

abbrev pub rows_on : Placement → ℕ
rows_on p = 2 * p.tracks + 2

abbrev pub col_count : List Net → ℕ
col_count nets = 6 * gate_count nets + 3

-- input cells are at the west end of their nets' rows, output cells at the east end
abbrev pub input_cell_on : Placement → List Net → ℕ → Spot
input_cell_on p nets i = record { row = 2 * p.track (input_net nets i); col = 0 }

abbrev pub output_cell_on : Placement → NetList → ℕ → Spot
output_cell_on p c i = record { row = 2 * p.track (get_or c.outputs i 0); col = 6 * gate_count c.nets + 2 }

abbrev pub table_on : Placement → NetList → Table
table_on p c = record {
  rows = rows_on p;
  cols = col_count c.nets;
  inputs = input_count c.nets;
  outputs = length c.outputs;
  role = role_on p c.nets;
  input_cell = input_cell_on p c.nets;
  output_cell = output_cell_on p c;
  feeder = feeder_on p c.nets;
  rank = rank_on p c.nets;
}

-- What a placement has to be

-- Each net has a track, and what runs on a track is a net of it. A net runs where it comes into its row, in the columns
-- of which it is the net, and to the last column if it is an output; and there is no gap between these and its source.
-- Beside the end of a run, on the same track, are no other net and no net of a column.
pub record IsPlaced (c : NetList) (p : Placement) : Type 0 where
  pub on : (n : ℕ) → n < length c.nets → p.track n < p.tracks
  pub named : (k col n : ℕ) → k < p.tracks → p.runs k col ≡ Some n → (n < length c.nets) × (p.track n ≡ k)
  pub sources : (n : ℕ) → n < length c.nets → p.runs (p.track n) (source c.nets n) ≡ Some n
  pub columns : (n col : ℕ) → column_net c.nets (column_of (gate_count c.nets) col) ≡ Some n → p.runs (p.track n) col ≡ Some n
  pub outputs : (i : ℕ) → i < length c.outputs → p.runs (p.track (get_or c.outputs i 0)) (6 * gate_count c.nets + 2) ≡ Some (get_or c.outputs i 0)
  pub to_east : (k col n : ℕ) → k < p.tracks → col < source c.nets n → p.runs k col ≡ Some n → p.runs k (col + 1) ≡ Some n
  pub to_west : (k col n : ℕ) → k < p.tracks → source c.nets n ≤ col → p.runs k (col + 1) ≡ Some n → p.runs k col ≡ Some n
  pub ends_east : (k col n : ℕ) → k < p.tracks → col + 1 < col_count c.nets → p.runs k col ≡ Some n
      → (p.runs k (col + 1) ≡ Some n) ⊎ ((p.runs k (col + 1) ≡ None) × (column_net c.nets (column_of (gate_count c.nets) (col + 1)) ≡ None))
  pub ends_west : (k col n : ℕ) → k < p.tracks → col + 1 < col_count c.nets → p.runs k (col + 1) ≡ Some n
      → (p.runs k col ≡ Some n) ⊎ ((p.runs k col ≡ None) × (column_net c.nets (column_of (gate_count c.nets) col) ≡ None))
