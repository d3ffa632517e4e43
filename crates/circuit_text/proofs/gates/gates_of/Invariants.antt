use Rattle.std.proofs.Common.{◌≡◌, ◌++◌, drop}
use Rattle.circuit_text.specs.Values.{gates_from}
use Rattle.circuit_text.proofs.gates.gates_of.Given as goal

abbrev pub invariant-loop-net : goal.invariant-loop-net
invariant-loop-net l = record {
  number : l.number ≡ l.net-index;
  rest : l.gates.items ++ gates_from l.number (drop l.net-index l.nets) ≡ gates_from 0 l.nets;
}
