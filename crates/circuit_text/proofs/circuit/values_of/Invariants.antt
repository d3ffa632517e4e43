use Rattle.std.proofs.Common.{◌≡◌, [], length, drop}
use Rattle.circuit_text.specs.Values.{values_after}
use Rattle.circuit_text.proofs.circuit.values_of.Given as goal

abbrev pub invariant-loop-net : goal.invariant-loop-net
invariant-loop-net l =
    record {
      count : length l.known.items ≡ l.net-index;
      told : values_after l.inputs l.known.items (drop l.net-index l.nets) ≡ values_after l.inputs [] l.nets;
    }
