-- The values of nets.
use Rattle.std.specs.Prelude.{◌≡◌, ℕ, suc, ◌<◌, List, [], ◌∷◌, ◌++◌, length, Some, None, Bool, true, false, not, ◌&&◌, ◌||◌, ⊤, slice_get, get_or}
use Rattle.circuit_text.specs.declared.kinds.GateOp.{GateOp}
use Rattle.circuit_text.specs.declared.kinds.GateOp.TheVariants.{And, Or, Xor, Nand, Nor, Xnor, Not, Buf}
use Rattle.circuit_text.specs.declared.kinds.Net.{Net}
use Rattle.circuit_text.specs.declared.kinds.Net.TheVariants as net

-- two bits differ
abbrev pub differ : Bool → Bool → Bool
differ true e = not e
differ false e = e

-- the operation on its operands; with one operand, the second is not read
abbrev pub operate : GateOp → Bool → Bool → Bool
operate And d e = d && e
operate Or d e = d || e
operate Xor d e = differ d e
operate Nand d e = not (d && e)
operate Nor d e = not (d || e)
operate Xnor d e = not (differ d e)
operate Not d e = not d
operate Buf d e = d

-- a bit of a list
abbrev pub bit : List Bool → ℕ → Bool
bit bits n = get_or bits n false

-- the value of a net: the bit of its input, or its operation on the values of its operands
abbrev pub net_value : List Bool → List Bool → Net → Bool
net_value inputs known (net.Input number) = bit inputs number
net_value inputs known (net.Gate op a None) = operate op (bit known a) false
net_value inputs known (net.Gate op a (Some b)) = operate op (bit known a) (bit known b)

-- the values of nets, after those of the nets before them
abbrev pub values_after : List Bool → List Bool → List Net → List Bool
values_after inputs known [] = known
values_after inputs known (n ∷ nets) = values_after inputs (known ++ net_value inputs known n ∷ []) nets

-- the values of the nets of a circuit
unfoldable pub values_of : List Net → List Bool → List Bool
values_of nets inputs = values_after inputs [] nets

-- a gate of this operation has two operands
abbrev pub has_two : GateOp → Bool
has_two Not = false
has_two Buf = false
has_two op = true

-- the operands of a net with this number are lower, and as many as its operation has
abbrev pub IsNetAt : ℕ → Net → Type 0
IsNetAt n (net.Input number) = ⊤
IsNetAt n (net.Gate op a None) = (a < n) × (has_two op ≡ false)
IsNetAt n (net.Gate op a (Some b)) = (a < n) × (b < n) × (has_two op ≡ true)

-- each net follows its operands
abbrev pub AreNets : List Net → Type 0
AreNets nets = (n : ℕ) (net : Net) → slice_get nets n ≡ Some net → IsNetAt n net

-- each value is that of its net
pub record AreValues (nets : List Net) (inputs values : List Bool) : Type 0 where
  pub count : length values ≡ length nets
  pub each : (n : ℕ) (net : Net) → slice_get nets n ≡ Some net → bit values n ≡ net_value inputs values net

-- the net is a gate, or an input below this number
abbrev pub IsBelow : ℕ → Net → Type 0
IsBelow count (net.Input number) = number < count
IsBelow count (net.Gate op a b) = ⊤

abbrev pub AreInputsBelow : ℕ → List Net → Type 0
AreInputsBelow count nets = (n : ℕ) (net : Net) → slice_get nets n ≡ Some net → IsBelow count net

-- the numbers of the inputs among the nets, in their order
abbrev pub input_numbers : List Net → List ℕ
input_numbers [] = []
input_numbers (net.Input number ∷ nets) = number ∷ input_numbers nets
input_numbers (net.Gate op a b ∷ nets) = input_numbers nets

-- the numbers of the nets that are gates, where the first net has this number
abbrev pub gates_from : ℕ → List Net → List ℕ
gates_from n [] = []
gates_from n (net.Input number ∷ nets) = gates_from (suc n) nets
gates_from n (net.Gate op a b ∷ nets) = n ∷ gates_from (suc n) nets

abbrev pub gates_of : List Net → List ℕ
gates_of nets = gates_from 0 nets

-- how many of the nets are inputs
abbrev pub input_count : List Net → ℕ
input_count nets = length (input_numbers nets)
