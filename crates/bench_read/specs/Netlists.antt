-- A netlist, its values, and the netlist of a text or its first fault.
use Rattle.std.specs.Prelude.{◌≡◌, ◌<◌, ◌≤◌, ℕ, ◌+◌, ◌==◌, Bool, true, false, not, List, [], ◌∷◌, ◌++◌, length, map, get_or, Option, Some, None, Result, Ok, Err, if◌then◌else◌}
use Rattle.std.specs.List.{flat_map, list_all, list_any, AllByRecursion, sum_by}
use Rattle.surf_text.specs.Lines.{lines_of}
use Rattle.species.specs.Texts.{is_in, index_of}
use Rattle.circuit_text.specs.declared.kinds.GateOp.{GateOp}
use Rattle.circuit_text.specs.declared.kinds.GateOp.TheVariants.{And, Or, Xor, Nand, Nor, Xnor, Not, Buf}
use Rattle.circuit_text.specs.Values.{bit, differ, has_two}
use Rattle.bench_read.specs.Lines.{Name, LineSort, sort_of}
use Rattle.bench_read.specs.Passes.{defines, puts_out, gate_nets, fault_at, first_pass, second_pass, third_pass}
use Rattle.bench_read.specs.Order.{Item, InputNet, GateNet, items_in, lines_from, operands_at, item_at, inputs_of, order_of, place_of, first_unplaced}
use Rattle.bench_read.specs.declared.fault.BenchKind.TheVariants.{Cycle}
use Rattle.bench_read.specs.declared.fault.BenchFault.{BenchFault}

-- a gate whose operands are nets by their places
pub record PlacedGate : Type 0 where
  pub op : GateOp
  pub operands : List ℕ

-- the nets in the order in which they are placed: so many inputs and then the gates; and the places of the outputs
pub record Netlist : Type 0 where
  pub inputs : ℕ
  pub gates : List PlacedGate
  pub outputs : List ℕ

-- Values

-- an odd number of the bits are set
abbrev pub is_odd : List Bool → Bool
is_odd [] = false
is_odd (d ∷ bits) = differ d (is_odd bits)

-- all, any or an odd number of the values, complemented for NAND, NOR, XNOR and NOT; BUFF has one operand
abbrev pub value_by : GateOp → List Bool → Bool
value_by And bits = list_all (λ d. d) bits
value_by Or bits = list_any (λ d. d) bits
value_by Xor bits = is_odd bits
value_by Nand bits = not (list_all (λ d. d) bits)
value_by Nor bits = not (list_any (λ d. d) bits)
value_by Xnor bits = not (is_odd bits)
value_by Not bits = not (list_any (λ d. d) bits)
value_by Buf bits = list_any (λ d. d) bits

-- the values of gates, each behind those of the nets placed before it
abbrev pub values_behind : List Bool → List PlacedGate → List Bool
values_behind known [] = known
values_behind known (gate ∷ gates) = values_behind (known ++ value_by gate.op (map (bit known) gate.operands) ∷ []) gates

-- the value of each output, for a bit of each input
unfoldable pub output_values : Netlist → List Bool → List Bool
output_values netlist inputs = map (bit (values_behind inputs netlist.gates)) netlist.outputs

-- The netlist of a text

-- the gate of an item, where it is one, with the places of its operands
abbrev pub gates_for : List ℕ → Item → List PlacedGate
gates_for order InputNet = []
gates_for order (GateNet op operands) = record { op = op; operands = map (place_of order) operands } ∷ []

-- the gates of these items, whose operands have their places in the order
abbrev pub gates_among : List Item → List ℕ → List ℕ → List PlacedGate
gates_among items order numbers = flat_map (λ d. gates_for order (item_at items d)) numbers

-- the netlist of items that are placed in this order, with these outputs
abbrev pub netlist_of : List Item → List ℕ → List ℕ → Netlist
netlist_of items order outputs = record {
  inputs = length (inputs_of items);
  gates = gates_among items order order;
  outputs = map (place_of order) outputs;
}

abbrev pub unless : Option BenchFault → Result Netlist BenchFault → Result Netlist BenchFault
unless (Some fault) rest = Err fault
unless None rest = rest

-- where an item is left, the first one that is has a fault
abbrev pub placed_netlist : List Item → List ℕ → List ℕ → Result Netlist BenchFault
placed_netlist items lines outputs =
    if first_unplaced (length items) (order_of items) == length items then Ok (netlist_of items (order_of items) outputs)
    else Err (fault_at (get_or lines (first_unplaced (length items) (order_of items)) 0) Cycle)

-- the netlist of lines, or the first fault of the first pass that has one
abbrev pub netlist_by : List Name → List LineSort → Result Netlist BenchFault
netlist_by names lines =
    unless (first_pass 1 [] 0 lines) (unless (second_pass (is_in names) 1 lines) (unless (third_pass lines)
    (placed_netlist (flat_map (items_in names) lines) (lines_from 1 lines) (map (index_of names) (flat_map puts_out lines)))))

-- the netlist of a text, or its fault
abbrev pub netlist_in : List ℕ → Result Netlist BenchFault
netlist_in text =
    let lines = map sort_of (lines_of text) in
    netlist_by (flat_map defines lines) lines

-- What a netlist is

-- as many operands as the operation has
abbrev pub HasArity : GateOp → List ℕ → Type 0
HasArity op [] = ⊥
HasArity op (a ∷ []) = has_two op ≡ false
HasArity op (a ∷ b ∷ more) = has_two op ≡ true

-- the operands of a gate are placed before it
pub record IsPlacedGate (places : ℕ) (gate : PlacedGate) : Type 0 where
  pub arity : HasArity gate.op gate.operands
  pub before : AllByRecursion (λ p. p < places) gate.operands

-- the gates follow so many nets that are placed
abbrev pub AreGates : ℕ → List PlacedGate → Type 0
AreGates places [] = Unit {0}
AreGates places (gate ∷ gates) = IsPlacedGate places gate × AreGates (places + 1) gates

-- how many nets the circuit has for gates
abbrev pub nets_for : List PlacedGate → ℕ
nets_for gates = sum_by (λ gate. gate_nets (length gate.operands)) gates

-- each gate follows its operands, the outputs are nets, and there is one; and a circuit has room for it
pub record IsNetlist (netlist : Netlist) : Type 0 where
  pub gates_are : AreGates netlist.inputs netlist.gates
  pub outputs_are : AllByRecursion (λ p. p < netlist.inputs + length netlist.gates) netlist.outputs
  pub some : 1 ≤ length netlist.outputs
  pub few : netlist.inputs + nets_for netlist.gates ≤ 65536
