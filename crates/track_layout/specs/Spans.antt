-- The span of a net: the columns from its first to its last.
use Rattle.std.specs.Prelude.{ℕ, zero, suc, ◌+◌, ◌*◌, List, length, Option, Some, None, Bool, true, false, ◌==◌, ◌&&◌, ◌||◌, nat_le, if◌then◌else◌, get_or}
use Rattle.circuit_text.specs.declared.kinds.Net.{Net}
use Rattle.circuit_text.specs.Circuits.{NetList}
use Rattle.gate_layout.specs.Nets.{gate_count}
use Rattle.gate_layout.specs.Placed.{source, column_of, column_net}

-- a net begins where it comes into its row: at column 0 for an input, and at column 6g + 5 for the net of gate g
abbrev pub first : NetList → ℕ → ℕ
first c n = source c.nets n

abbrev pub is_this : ℕ → Option ℕ → Bool
is_this n None = false
is_this n (Some t) = t == n

-- whether a column has this net: as an operand of its gate, or as the gate's own net
abbrev pub has_net : List Net → ℕ → ℕ → Bool
has_net nets col n = is_this n (column_net nets (column_of (gate_count nets) col))

-- the greatest column up to this one that has the net, and 1 where none has
abbrev pub last_by : List Net → ℕ → ℕ → ℕ
last_by nets zero n = 1
last_by nets (suc col) n = if has_net nets (suc col) n then suc col else last_by nets col n

-- one of the first i outputs is the net
abbrev pub is_output : List ℕ → ℕ → ℕ → Bool
is_output outputs zero n = false
is_output outputs (suc i) n = (get_or outputs i 0 == n) || is_output outputs i n

-- an output ends at the last column, and every other net at the greatest column that has it
abbrev pub last_among : NetList → ℕ → ℕ → ℕ
last_among c i n = if is_output c.outputs i n then 6 * gate_count c.nets + 2 else last_by c.nets (6 * gate_count c.nets) n

unfoldable pub last : NetList → ℕ → ℕ
last c n = last_among c (length c.outputs) n

-- 1 for true, and 0 for false
abbrev pub one_if : Bool → ℕ
one_if true = 1
one_if false = 0

-- a column is in the span of a net
abbrev pub spans : NetList → ℕ → ℕ → Bool
spans c n col = nat_le (first c n) col && nat_le col (last c n)
