-- The circuit of a netlist, and its text.
use Rattle.std.specs.Prelude.{◌≡◌, ℕ, ◌+◌, ◌-◌, List, [], ◌∷◌, ◌++◌, length, map, get_or, Option, Some, None, codes, decimal}
use Rattle.std.specs.List.{flat_map, range_with_len}
use Rattle.circuit_text.specs.declared.kinds.GateOp.{GateOp}
use Rattle.circuit_text.specs.declared.kinds.GateOp.TheVariants.{And, Or, Xor, Nand, Nor, Xnor, Not, Buf}
use Rattle.circuit_text.specs.declared.kinds.Net.{Net}
use Rattle.circuit_text.specs.declared.kinds.Net.TheVariants as net
use Rattle.circuit_text.specs.Names.{Name}
use Rattle.circuit_text.specs.Circuits.{NetList}
use Rattle.bench_read.specs.Netlists.{PlacedGate, Netlist}

-- The circuit

-- the operation of the gates of a chain before its last one
abbrev pub base_op : GateOp → GateOp
base_op And = And
base_op Or = Or
base_op Xor = Xor
base_op Nand = And
base_op Nor = Or
base_op Xnor = Xor
base_op Not = Not
base_op Buf = Buf

-- the gates from the left over net a and these operands, of which the last one has the operation itself; the first gate
-- is net n
abbrev pub links : ℕ → GateOp → ℕ → List ℕ → List Net
links n op a [] = net.Gate op a None ∷ []
links n op a (b ∷ []) = net.Gate op a (Some b) ∷ []
links n op a (b ∷ c ∷ more) = net.Gate (base_op op) a (Some b) ∷ links (n + 1) op n (c ∷ more)

abbrev pub chain : ℕ → GateOp → List ℕ → List Net
chain n op [] = []
chain n op (a ∷ operands) = links n op a operands

-- the nets of a circuit, and the number of the net that each placed net of a netlist is
pub record Circuitry : Type 0 where
  pub nets : List Net
  pub at : List ℕ

abbrev pub numbers_at : List ℕ → List ℕ → List ℕ
numbers_at at places = map (λ p. get_or at p 0) places

-- the circuit with a gate more, whose last net is the gate's
abbrev pub with_gate : Circuitry → PlacedGate → Circuitry
with_gate c gate = record {
  nets = c.nets ++ chain (length c.nets) gate.op (numbers_at c.at gate.operands);
  at = c.at ++ (length (c.nets ++ chain (length c.nets) gate.op (numbers_at c.at gate.operands)) - 1) ∷ [];
}

abbrev pub with_gates : Circuitry → List PlacedGate → Circuitry
with_gates c [] = c
with_gates c (gate ∷ gates) = with_gates (with_gate c gate) gates

abbrev pub input_nets : ℕ → Circuitry
input_nets count = record { nets = map net.Input (range_with_len 0 count); at = range_with_len 0 count }

-- the circuit of a netlist: its nets, and the numbers of those that are outputs
unfoldable pub circuitry_of : Netlist → Circuitry
circuitry_of netlist = with_gates (input_nets netlist.inputs) netlist.gates

abbrev pub circuit_nets : Netlist → List Net
circuit_nets netlist = (circuitry_of netlist).nets

abbrev pub circuit_outputs : Netlist → List ℕ
circuit_outputs netlist = numbers_at (circuitry_of netlist).at netlist.outputs

-- The text

-- n0, n1 and so on
abbrev pub net_name : ℕ → List ℕ
net_name n = 110 ∷ decimal n

abbrev pub op_word : GateOp → List ℕ
op_word And = codes "AND"
op_word Or = codes "OR"
op_word Xor = codes "XOR"
op_word Nand = codes "NAND"
op_word Nor = codes "NOR"
op_word Xnor = codes "XNOR"
op_word Not = codes "NOT"
op_word Buf = codes "BUF"

-- a second operand, where there is one
abbrev pub second_text : Option ℕ → List ℕ
second_text None = []
second_text (Some b) = 32 ∷ net_name b

-- the line of net n
abbrev pub net_line : ℕ → Net → List ℕ
net_line n (net.Input number) = codes "input " ++ net_name n
net_line n (net.Gate op a b) = net_name n ++ (codes " = " ++ (op_word op ++ (32 ∷ net_name a ++ second_text b)))

abbrev pub output_line : ℕ → List ℕ
output_line n = codes "output " ++ net_name n

-- a line for each net, of which the first is net n
abbrev pub net_lines : ℕ → List Net → List (List ℕ)
net_lines n [] = []
net_lines n (x ∷ nets) = net_line n x ∷ net_lines (n + 1) nets

-- each line with its end
abbrev pub ended_lines : List (List ℕ) → List ℕ
ended_lines lines = flat_map (λ line. line ++ 10 ∷ []) lines

-- the text of a circuit: a line for each net, and one for each output
unfoldable pub text_by : List Net → List ℕ → List ℕ
text_by nets outputs = ended_lines (net_lines 0 nets ++ map output_line outputs)

-- the text of the circuit of a netlist
abbrev pub text_of : Netlist → List ℕ
text_of netlist = text_by (circuit_nets netlist) (circuit_outputs netlist)

-- the names of the first nets
abbrev pub net_names : ℕ → List Name
net_names count = map net_name (range_with_len 0 count)

-- the circuit of a netlist
abbrev pub circuit_of : Netlist → NetList
circuit_of netlist = record { names = net_names (length (circuit_nets netlist)); nets = circuit_nets netlist; outputs = circuit_outputs netlist }
