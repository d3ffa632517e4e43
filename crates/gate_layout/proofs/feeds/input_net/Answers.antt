use Rattle.std.proofs.Common.{◌<◌, length, get_or, inl, inr, arith, sym, ap, ◌∙◌}
use Rattle.std.proofs.lemmas.Option.{get_or_from_slice_get}
use Rattle.std.proofs.lemmas.Bool.{cases_eq}
use Rattle.std.proofs.lemmas.List.Sums.{position_or_len_is}
use Rattle.circuit_text.specs.declared.kinds.Net.TheVariants as net
use Rattle.gate_layout.specs.Nets.{is_input}
use Rattle.gate_layout.proofs.Gates.{none_before}
use Rattle.gate_layout.proofs.feeds.input_net.Goals as goal

pub loop-net-init : goal.loop-net-init
loop-net-init c k below lt = none_before c.args.circuit.now.nets c.args.number k c.requires below lt

pub returns-then-is_input-clause-net : goal.returns-then-is_input-clause-net
returns-then-is_input-clause-net c =
    let nets = c.args.circuit.now.nets in
    let own = get_or_from_slice_get nets c.loop-net.net c.net.result (net.Input 0) c.net.ensures.net in
    let lt : c.loop-net.net < length nets = omega (arith, c.loop-net-test.true, c.net_count-nets.ensures.count) in
    sym (position_or_len_is (is_input c.args.number) nets c.loop-net.net (net.Input 0) (omega (arith, lt)) (λ k below. c.loop-net.invariant k below (omega (arith, below, lt))) (λ inside. ap (is_input c.args.number) own ∙ sym c.is_input.ensures ∙ c.if-is_input.true))

pub loop-net-preserved : goal.loop-net-preserved
loop-net-preserved c k below lt = elim (cases_eq k c.loop-net.net) [
  | inl same ↦
      let nets = c.args.circuit.now.nets in
      let own = get_or_from_slice_get nets c.loop-net.net c.net.result (net.Input 0) c.net.ensures.net in
      ap (λ j. is_input c.args.number (get_or nets j (net.Input 0))) same ∙ ap (is_input c.args.number) own ∙ sym c.is_input.ensures ∙ c.if-is_input.false
  | inr other ↦ c.loop-net.invariant k (omega (arith, below, other)) lt
]

pub returns-clause-net : goal.returns-clause-net
returns-clause-net c =
    let nets = c.args.circuit.now.nets in
    sym (position_or_len_is (is_input c.args.number) nets c.net_count-nets.result (net.Input 0) (omega (arith, c.net_count-nets.ensures.count))
    (λ k below. c.loop-net.invariant k (omega (arith, below, c.loop-net-test.false)) (omega (arith, below, c.net_count-nets.ensures.count))) (λ inside. absurd (omega (arith, inside, c.net_count-nets.ensures.count))))
