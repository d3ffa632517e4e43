-- The gates and the inputs among the nets of a circuit.
use Rattle.std.specs.Prelude.{◌≡◌, ℕ, List, length, Option, Some, None, Bool, false, ◌==◌, slice_get, get_or}
use Rattle.std.specs.List.{position_or_len, range_with_len}
use Rattle.circuit_text.specs.declared.kinds.Net.{Net}
use Rattle.circuit_text.specs.declared.kinds.Net.TheVariants as net
use Rattle.circuit_text.specs.Values.{gates_of, input_numbers, input_count}

-- how many gates there are
abbrev pub gate_count : List Net → ℕ
gate_count nets = length (gates_of nets)

-- the number of the net that a gate has
abbrev pub net_of : List Net → ℕ → ℕ
net_of nets g = get_or (gates_of nets) g 0

-- the gate that a net is: its place among the gates
abbrev pub gate_at : List Net → ℕ → ℕ
gate_at nets n = position_or_len (λ m. m == n) (gates_of nets)

-- the operands of a net
abbrev pub a_of : Option Net → Option ℕ
a_of (Some (net.Gate op a b)) = Some a
a_of other = None

abbrev pub b_of : Option Net → Option ℕ
b_of (Some (net.Gate op a b)) = b
b_of other = None

-- the operands of a gate; the second is missing where the gate has one operand
abbrev pub operand_a : List Net → ℕ → Option ℕ
operand_a nets g = a_of (slice_get nets (net_of nets g))

abbrev pub operand_b : List Net → ℕ → Option ℕ
operand_b nets g = b_of (slice_get nets (net_of nets g))

-- the number of the net that an input has: the first net that is this input
abbrev pub is_input : ℕ → Net → Bool
is_input i (net.Input k) = k == i
is_input i (net.Gate op a b) = false

abbrev pub input_net : List Net → ℕ → ℕ
input_net nets i = position_or_len (is_input i) nets

-- the inputs have the numbers 0, 1, 2 and so on, in the order of the nets
abbrev pub AreNumbered : List Net → Type 0
AreNumbered nets = input_numbers nets ≡ range_with_len 0 (input_count nets)
