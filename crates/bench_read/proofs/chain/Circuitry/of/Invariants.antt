use Rattle.std.proofs.Common.{◌≡◌, ◌+◌, ◌≤◌, length, map, drop}
use Rattle.bench_read.specs.Netlists.{AreGates, nets_for}
use Rattle.bench_read.specs.Chains.{with_gates, input_nets}
use Rattle.bench_read.specs.Readings.{gate_of, circuitry_by}
use Rattle.bench_read.proofs.chain.Circuitry.of.Given as goal

abbrev pub invariant-loop-gate : goal.invariant-loop-gate
invariant-loop-gate l = record {
  rest : with_gates (circuitry_by l.circuit) (drop l.gate-index (map gate_of l.gates)) ≡ with_gates (input_nets l.inputs) (map gate_of l.gates);
  at : length l.circuit.at.items ≡ l.inputs + l.gate-index;
  gates : AreGates (l.inputs + l.gate-index) (drop l.gate-index (map gate_of l.gates));
  few : length l.circuit.nets.items + nets_for (drop l.gate-index (map gate_of l.gates)) ≤ 65536;
}
