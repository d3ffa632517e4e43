-- What `value` says of a circuit.
use Rattle.std.specs.Prelude.{ℕ, Bool, true, false, List, [], ◌∷◌, ◌++◌, map, slice_index_or, ◌==◌}
use Rattle.std.specs.List.{flat_map}
use Rattle.circuit_text.specs.Circuits.{NetList}
use Rattle.circuit_text.specs.Values.{bit, values_of}

-- the bits that a word of 0 and 1 spells
abbrev pub bits_of : List ℕ → List Bool
bits_of word = map (λ c. c == 49) word

abbrev pub bit_text : Bool → List ℕ
bit_text true = 49 ∷ []
bit_text false = 48 ∷ []

-- the name of a net and its value
abbrev pub value_line : NetList → List Bool → ℕ → List ℕ
value_line c values net = slice_index_or c.names net [] ++ 32 ∷ bit_text (bit values net) ++ 10 ∷ []

-- a line for each output, in the order of the output lines
abbrev pub outputs_text : NetList → List Bool → List ℕ
outputs_text c values = flat_map (value_line c values) c.outputs

abbrev pub value_text : NetList → List Bool → List ℕ
value_text c inputs = outputs_text c (values_of c.nets inputs)
