use Rattle.std.proofs.Common.{◌==◌, inl, inr, arith, sym, ap, ◌∙◌}
use Rattle.std.proofs.lemmas.Option.{get_or_from_slice_get}
use Rattle.std.proofs.lemmas.Bool.{cases_eq, eq-eqb}
use Rattle.std.proofs.lemmas.List.Sums.{position_or_len_is}
use Rattle.circuit_text.specs.Values.{gates_of}
use Rattle.gate_layout.specs.Nets.{net_of}
use Rattle.gate_layout.proofs.Places.{not_same}
use Rattle.gate_layout.proofs.feeds.gate_at.Goals as goal

pub returns-then-gate_net-net-clause-gate : goal.returns-then-gate_net-net-clause-gate
returns-then-gate_net-net-clause-gate c =
    let gates = gates_of c.args.circuit.now.nets in
    let own = get_or_from_slice_get gates c.loop-gate.gate c.gate_net.result 0 c.gate_net.ensures.gate in
    sym (position_or_len_is (λ m. m == c.args.net) gates c.loop-gate.gate 0 (omega (arith, c.loop-gate-test.true, c.gate_count-gates.ensures)) c.loop-gate.invariant (λ lt. eq-eqb _ _ (own ∙ c.if-gate_net-net.true)))

pub loop-gate-preserved : goal.loop-gate-preserved
loop-gate-preserved c k lt = elim (cases_eq k c.loop-gate.gate) [
  | inl same ↦
      let gates = gates_of c.args.circuit.now.nets in
      let own = get_or_from_slice_get gates c.loop-gate.gate c.gate_net.result 0 c.gate_net.ensures.gate in
      not_same _ _ (λ e. c.if-gate_net-net.false (sym own ∙ ap (net_of c.args.circuit.now.nets) (sym same) ∙ e))
  | inr other ↦ c.loop-gate.invariant k (omega (arith, lt, other))
]

pub returns-clause-gate : goal.returns-clause-gate
returns-clause-gate c =
    let gates = gates_of c.args.circuit.now.nets in
    sym (position_or_len_is (λ m. m == c.args.net) gates c.gate_count-gates.result 0 (omega (arith, c.gate_count-gates.ensures)) (λ k lt. c.loop-gate.invariant k (omega (arith, lt, c.loop-gate-test.false))) (λ lt. absurd (omega (arith, lt, c.gate_count-gates.ensures))))
