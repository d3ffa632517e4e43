-- What the text that `bench` writes says of the netlist.
use Rattle.std.specs.Prelude.{◌≡◌, ℕ, List, Bool, Ok, length, map}
use Rattle.circuit_text.specs.Circuits.{NetList, circuit_in}
use Rattle.circuit_text.specs.Values.{bit, values_of, input_count}
use Rattle.bench_read.specs.Netlists.{Netlist, netlist_in, output_values}

-- The bytes are those of a netlist. The text is accepted as a circuit with as many inputs, of which each output has the
-- netlist's value, for all inputs.
pub record KeepsValues (bytes text : List ℕ) : Type 0 where
  pub netlist : Netlist
  pub read : netlist_in bytes ≡ Ok netlist
  pub circuit : NetList
  pub accepted : circuit_in text ≡ Ok circuit
  pub inputs : input_count circuit.nets ≡ netlist.inputs
  pub values : (inputs : List Bool) → length inputs ≡ netlist.inputs → map (bit (values_of circuit.nets inputs)) circuit.outputs ≡ output_values netlist inputs
