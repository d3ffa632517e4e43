-- Tables of roles, and when one is well-formed for a circuit.
use Rattle.std.specs.Prelude.{◌≡◌, ℕ, ◌+◌, ◌<◌, ◌==◌, List, length, Option, Some, None, Bool, true, ⊤, ◌⊎◌, slice_get, get_or}
use Rattle.circuit_text.specs.declared.kinds.Net.{Net}
use Rattle.circuit_text.specs.declared.kinds.Net.TheVariants as net
use Rattle.circuit_text.specs.Values.{input_count}
use Rattle.circuit_text.specs.Circuits.{NetList}
use Rattle.gate_layout.specs.declared.role.Role.{Role}
use Rattle.gate_layout.specs.declared.role.Role.TheVariants.{Inert, Wire, Vert, PinA, PinB, Cross, Gate}
use Rattle.gate_layout.specs.Nets.{gate_count, net_of, operand_a, operand_b}

-- a cell of a table
pub record Spot : Type 0 where
  pub row : ℕ
  pub col : ℕ

abbrev pub spot_of : ℕ × ℕ → Spot
spot_of p = record { row = p.0; col = p.1 }

-- a table of roles: the role of each cell, the cells of inputs and outputs, and for each half of a cell the
-- neighbour that fills it and its rank
pub record Table : Type 0 where
  pub rows : ℕ
  pub cols : ℕ
  pub inputs : ℕ
  pub outputs : ℕ
  pub role : ℕ → ℕ → Role
  pub input_cell : ℕ → Spot
  pub output_cell : ℕ → Spot
  pub feeder : ℕ → ℕ → ℕ → Option Spot
  pub rank : ℕ → ℕ → ℕ → ℕ

abbrev pub IsSpot : Table → Spot → Type 0
IsSpot t s = (s.row < t.rows) × (s.col < t.cols)

abbrev pub role_at : Table → Spot → Role
role_at t s = t.role s.row s.col

-- the cell is a wire of a net
abbrev pub IsWireAt : Table → Spot → ℕ → Type 0
IsWireAt t s n = IsSpot t s × (role_at t s ≡ Wire n)

-- The first condition

-- the nets and the gate that a role names are the circuit's
abbrev pub IsNamed : List Net → Role → Type 0
IsNamed nets Inert = ⊤
IsNamed nets (Wire n) = n < length nets
IsNamed nets (Vert n) = n < length nets
IsNamed nets (PinA n) = n < length nets
IsNamed nets (PinB n) = n < length nets
IsNamed nets (Cross n m) = (n < length nets) × (m < length nets)
IsNamed nets (Gate g) = g < gate_count nets

-- the roles of two neighbours agree
abbrev pub Agree : List Net → Role → Role → Type 0
Agree nets (Wire m) (Wire n) = m ≡ n
Agree nets (Wire m) (Vert n) = m ≡ n
Agree nets (Vert m) (Wire n) = m ≡ n
Agree nets (Vert m) (Vert n) = m ≡ n
Agree nets (Vert m) (PinA n) = m ≡ n
Agree nets (PinA m) (Vert n) = m ≡ n
Agree nets (Vert m) (PinB n) = m ≡ n
Agree nets (PinB m) (Vert n) = m ≡ n
Agree nets (Wire m) (Cross n c) = m ≡ n
Agree nets (Cross n c) (Wire m) = m ≡ n
Agree nets (Vert m) (Cross n c) = m ≡ c
Agree nets (Cross n c) (Vert m) = m ≡ c
Agree nets (PinA m) (Gate g) = operand_a nets g ≡ Some m
Agree nets (Gate g) (PinA m) = operand_a nets g ≡ Some m
Agree nets (PinB m) (Gate g) = operand_b nets g ≡ Some m
Agree nets (Gate g) (PinB m) = operand_b nets g ≡ Some m
Agree nets (Wire m) (Gate g) = m ≡ net_of nets g
Agree nets (Gate g) (Wire m) = m ≡ net_of nets g
Agree nets r s = ⊤

-- each role names nets and gates of the circuit, and the roles of neighbours agree
pub record DoAgree (nets : List Net) (t : Table) : Type 0 where
  pub named : (r c : ℕ) → r < t.rows → c < t.cols → IsNamed nets (t.role r c)
  pub east : (r c : ℕ) → r < t.rows → c + 1 < t.cols → Agree nets (t.role r c) (t.role r (c + 1))
  pub south : (r c : ℕ) → r + 1 < t.rows → c < t.cols → Agree nets (t.role r c) (t.role (r + 1) c)

-- The second condition

-- input cells are distinct wires of their inputs' nets, and output cells are wires of their outputs' nets
pub record HasEnds (c : NetList) (t : Table) : Type 0 where
  pub inputs : t.inputs ≡ input_count c.nets
  pub starts : (n i : ℕ) → slice_get c.nets n ≡ Some (net.Input i) → IsWireAt t (t.input_cell i) n
  pub distinct : (i k : ℕ) → i < t.inputs → k < t.inputs → t.input_cell i ≡ t.input_cell k → i ≡ k
  pub outputs : t.outputs ≡ length c.outputs
  pub ends : (i : ℕ) → i < t.outputs → IsWireAt t (t.output_cell i) (get_or c.outputs i 0)

-- The third condition

-- how many halves a role has: one for each operand of a gate, two of a crossing, which are its row half and its
-- column half, and one of any other role but an inert cell
abbrev pub gate_halves : Option ℕ → ℕ
gate_halves None = 1
gate_halves (Some b) = 2

abbrev pub halves : List Net → Role → ℕ
halves nets Inert = 0
halves nets (Cross n m) = 2
halves nets (Gate g) = gate_halves (operand_b nets g)
halves nets other = 1

-- a cell of the first role can fill this half of a neighbour of the second role
abbrev pub Feeds : Role → Role → ℕ → Type 0
Feeds (Wire m) (Wire n) half = ⊤
Feeds (Wire m) (Vert n) half = ⊤
Feeds (Wire m) (Cross n c) half = half ≡ 0
Feeds (Vert m) (Vert n) half = ⊤
Feeds (Vert m) (Wire n) half = ⊤
Feeds (Vert m) (PinA n) half = ⊤
Feeds (Vert m) (PinB n) half = ⊤
Feeds (Vert m) (Cross n c) half = half ≡ 1
Feeds (Cross n c) (Wire m) half = ⊤
Feeds (Cross n c) (Vert m) half = ⊤
Feeds (PinA m) (Gate g) half = half ≡ 0
Feeds (PinB m) (Gate g) half = half ≡ 1
Feeds (Gate g) (Wire m) half = ⊤
Feeds r s half = ⊥

-- for that, this half of the first must be known: of a crossing the row half for a wire and the column half for a
-- vertical cell, and of any other cell all that it has
abbrev pub needs : Role → Role → ℕ → Bool
needs (Cross n c) (Wire m) half = half == 0
needs (Cross n c) (Vert m) half = half == 1
needs r s half = true

-- two cells are neighbours
abbrev pub AreBeside : Spot → Spot → Type 0
AreBeside s t = ((s.row ≡ t.row) × ((s.col + 1 ≡ t.col) ⊎ (t.col + 1 ≡ s.col))) ⊎ ((s.col ≡ t.col) × ((s.row + 1 ≡ t.row) ⊎ (t.row + 1 ≡ s.row)))

-- a half has a feeder: a neighbour that can fill it, of which the halves that must be known have lower ranks
pub record IsFed (nets : List Net) (t : Table) (s : Spot) (half : ℕ) : Type 0 where
  pub from : Spot
  pub is : t.feeder s.row s.col half ≡ Some from
  pub within : IsSpot t from
  pub beside : AreBeside from s
  pub feeds : Feeds (role_at t from) (role_at t s) half
  pub lower : (k : ℕ) → k < halves nets (role_at t from) → needs (role_at t from) (role_at t s) k ≡ true → t.rank from.row from.col k < t.rank s.row s.col half

-- the cell is that of an input
abbrev pub IsInput : Table → Spot → Type 0
IsInput t s = (i : ℕ) × (i < t.inputs) × (t.input_cell i ≡ s)

-- each half that a role has, but for input cells, has a feeder
abbrev pub AreFed : List Net → Table → Type 0
AreFed nets t = (s : Spot) (half : ℕ) → IsSpot t s → half < halves nets (role_at t s) → (IsInput t s → ⊥) → IsFed nets t s half

-- The conditions together

pub record IsWellFormed (c : NetList) (t : Table) : Type 0 where
  pub agree : DoAgree c.nets t
  pub ends : HasEnds c t
  pub fed : AreFed c.nets t
