use Rattle.std.proofs.Common.{◌≡◌, ◌+◌, ◌≤◌, length, map, drop, sym, ap, ◌∙◌, arith, subst}
use Rattle.std.proofs.lemmas.List.FromFn.{length-range_with_len, length-map-range_with_len}
use Rattle.circuit_text.specs.declared.kinds.Net.TheVariants as net
use Rattle.bench_read.specs.Netlists.{AreGates, nets_for}
use Rattle.bench_read.specs.Chains.{Circuitry, with_gate, with_gates, input_nets}
use Rattle.bench_read.specs.Readings.{gate_of, circuitry_by}
use Rattle.bench_read.proofs.Building.{first-gate, gate-is, gate-fits, rest-more, at-more, gates-more, few-more}
use Rattle.bench_read.proofs.chain.Circuitry.of.Goals as goal

pub loop-gate-init : goal.loop-gate-init
loop-gate-init c =
    let e : circuitry_by c.in_ok-circuit.circuit ≡ input_nets c.args.inputs = c.in_ok-circuit.ensures in
    let next : c.args.inputs ≡ c.args.inputs + 0 = omega arith in
    record {
      rest = ap (λ y. with_gates y (map gate_of c.args.gates.now)) e;
      at = omega (arith, ap (λ (y : Circuitry). length y.at) e, length-range_with_len 0 c.args.inputs);
      gates = subst (λ n. AreGates n (map gate_of c.args.gates.now)) next c.requires.gates;
      few = omega (arith, ap (λ (y : Circuitry). length y.nets) e, length-map-range_with_len net.Input 0 c.args.inputs, c.requires.few);
    }

pub push-requires-clause-gate : goal.push-requires-clause-gate
push-requires-clause-gate c =
    let i = c.loop-gate.gate-index in
    let x = c.gate-item.result in
    let h = c.loop-gate.invariant in
    gate-is c.args.inputs i (circuitry_by c.loop-gate.circuit) (map gate_of c.args.gates.now) (gate_of x) (first-gate c.args.gates.now i x c.loop-gate-test.true c.gate-item.is) h.at h.gates

pub push-requires-clause-few : goal.push-requires-clause-few
push-requires-clause-few c =
    let i = c.loop-gate.gate-index in
    let x = c.gate-item.result in
    gate-fits c.args.inputs i (circuitry_by c.loop-gate.circuit) (map gate_of c.args.gates.now) (gate_of x) (first-gate c.args.gates.now i x c.loop-gate-test.true c.gate-item.is) c.loop-gate.invariant.few

pub loop-gate-preserved : goal.loop-gate-preserved
loop-gate-preserved c =
    let i = c.loop-gate.gate-index in
    let x = c.gate-item.result in
    let all = map gate_of c.args.gates.now in
    let old = circuitry_by c.loop-gate.circuit in
    let h = c.loop-gate.invariant in
    let e : circuitry_by c.push.new.self ≡ with_gate old (gate_of x) = c.in_ok-push.ensures in
    let first = first-gate c.args.gates.now i x c.loop-gate-test.true c.gate-item.is in
    record {
      rest = ap (λ y. with_gates y (drop (i + 1) all)) e ∙ rest-more c.args.inputs i old all (gate_of x) first (with_gates (input_nets c.args.inputs) all) h.rest;
      at = ap (λ (y : Circuitry). length y.at) e ∙ at-more c.args.inputs i old all (gate_of x) first h.at;
      gates = gates-more c.args.inputs i old all (gate_of x) first h.gates;
      few = subst (λ (y : Circuitry). length y.nets + nets_for (drop (i + 1) all) ≤ 65536) (sym e) (few-more c.args.inputs i old all (gate_of x) first h.gates h.few);
    }
