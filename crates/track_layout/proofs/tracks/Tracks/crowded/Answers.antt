use Rattle.std.proofs.Common.{◌≡◌, ◌+◌, ◌<◌, inl, inr, length, true, false, sym, ap, ◌∙◌, subst, arith}
use Rattle.std.proofs.lemmas.Bool.{cases_eq, eqb-true, eq-eqb}
use Rattle.std.proofs.lemmas.Option.{get_or_from_slice_get}
use Rattle.circuit_text.specs.Values.{AreNets, gates_of}
use Rattle.gate_layout.specs.Nets.{gate_count, net_of}
use Rattle.gate_layout.proofs.LawLemmas.{gate_facts}
use Rattle.track_layout.specs.Tracks.{AreTracks, track_in}
use Rattle.track_layout.proofs.Opens.{input_opens, gate_opens, some_opens, opened_crowd, opened_fewest}
use Rattle.track_layout.proofs.tracks.Tracks.crowded.Goals as goal

pub returns-then-has_input_last-clause-opens : goal.returns-then-has_input_last-clause-opens
returns-then-has_input_last-clause-opens c =
    let t = c.args.self.now in
    let n = c.has_input_last.ensures.some c.if-has_input_last.true in
    input_opens t.list t.tracks t.count n.0 n.1 n.2 n.3

pub returns-then-has_input_last-clause-exactly : goal.returns-then-has_input_last-clause-exactly
returns-then-has_input_last-clause-exactly c =
    let t = c.args.self.now in
    opened_crowd t.list t.tracks t.count 0 (subst (λ v. AreNets v.list.nets) c.self.view_is c.circuit_facts.ensures.nets) (subst (λ v. AreTracks v.list v.tracks v.count) c.self.view_is c.self.invariant.0)
    (returns-then-has_input_last-clause-opens c)

pub returns-then-has_input_last-clause-fewest : goal.returns-then-has_input_last-clause-fewest
returns-then-has_input_last-clause-fewest c =
    let t = c.args.self.now in
    opened_fewest t.list t.tracks t.count 0 (subst (λ v. AreNets v.list.nets) c.self.view_is c.circuit_facts.ensures.nets) (subst (λ v. AreTracks v.list v.tracks v.count) c.self.view_is c.self.invariant.0)
    (returns-then-has_input_last-clause-opens c)

pub is_last-requires : goal.is_last-requires
is_last-requires c =
    let nets = c.self.inside.circuit.now.nets in
    let size : length nets ≡ length c.args.self.now.list.nets = ap (λ v. length v.list.nets) c.self.view_is in
    let own : net_of nets c.loop-gate.gate ≡ c.gate_net.result = get_or_from_slice_get (gates_of nets) c.loop-gate.gate c.gate_net.result 0 c.gate_net.ensures.gate in
    let f = gate_facts nets c.loop-gate.gate (omega (arith, c.loop-gate-test.true, c.gate_count-gate-end.ensures)) in
    omega (arith, own, f.0, size)

pub returns-then-is_last-clause-opens : goal.returns-then-is_last-clause-opens
returns-then-is_last-clause-opens c =
    let t = c.args.self.now in
    let nets = c.self.inside.circuit.now.nets in
    let g = c.loop-gate.gate in
    let gates : gate_count nets ≡ gate_count t.list.nets = ap (λ v. gate_count v.list.nets) c.self.view_is in
    let own : net_of nets g ≡ c.gate_net.result = get_or_from_slice_get (gates_of nets) g c.gate_net.result 0 c.gate_net.ensures.gate in
    let same : net_of t.list.nets g ≡ c.gate_net.result = ap (λ v. net_of v.list.nets g) (sym c.self.view_is) ∙ own in
    let on : track_in t.tracks c.gate_net.result + 1 ≡ t.count = eqb-true (track_in t.tracks c.gate_net.result + 1) t.count (sym c.is_last.ensures ∙ c.if-is_last.true) in
    gate_opens t.list t.tracks t.count g (omega (arith, c.loop-gate-test.true, c.gate_count-gate-end.ensures, gates)) (ap (λ n. track_in t.tracks n + 1) same ∙ on)
    c.loop-gate.invariant (c.has_input_last.ensures.none c.if-has_input_last.false)

pub returns-then-is_last-clause-exactly : goal.returns-then-is_last-clause-exactly
returns-then-is_last-clause-exactly c =
    let t = c.args.self.now in
    opened_crowd t.list t.tracks t.count _ (subst (λ v. AreNets v.list.nets) c.self.view_is c.circuit_facts.ensures.nets) (subst (λ v. AreTracks v.list v.tracks v.count) c.self.view_is c.self.invariant.0)
    (returns-then-is_last-clause-opens c)

pub returns-then-is_last-clause-fewest : goal.returns-then-is_last-clause-fewest
returns-then-is_last-clause-fewest c =
    let t = c.args.self.now in
    opened_fewest t.list t.tracks t.count _ (subst (λ v. AreNets v.list.nets) c.self.view_is c.circuit_facts.ensures.nets) (subst (λ v. AreTracks v.list v.tracks v.count) c.self.view_is c.self.invariant.0)
    (returns-then-is_last-clause-opens c)

pub loop-gate-preserved : goal.loop-gate-preserved
loop-gate-preserved c h below on = elim (cases_eq h c.loop-gate.gate) [
  | inr other ↦ c.loop-gate.invariant h (omega (arith, below, other)) on
  | inl is ↦
      let t = c.args.self.now in
      let nets = c.self.inside.circuit.now.nets in
      let g = c.loop-gate.gate in
      let own : net_of nets g ≡ c.gate_net.result = get_or_from_slice_get (gates_of nets) g c.gate_net.result 0 c.gate_net.ensures.gate in
      let same : net_of t.list.nets h ≡ c.gate_net.result = ap (net_of t.list.nets) is ∙ ap (λ v. net_of v.list.nets g) (sym c.self.view_is) ∙ own in
      let also : track_in t.tracks c.gate_net.result + 1 ≡ t.count = ap (λ n. track_in t.tracks n + 1) (sym same) ∙ on in
      let z : true ≡ false = sym (eq-eqb (track_in t.tracks c.gate_net.result + 1) t.count also) ∙ sym c.is_last.ensures ∙ c.if-is_last.false in
      cc
]

pub unreachable-requires : goal.unreachable-requires
unreachable-requires c =
    let t = c.args.self.now in
    let gates : gate_count c.self.inside.circuit.now.nets ≡ gate_count t.list.nets = ap (λ v. gate_count v.list.nets) c.self.view_is in
    let some : 0 < length t.list.nets = subst (λ v. 0 < length v.list.nets) c.self.view_is c.circuit_facts.ensures.some in
    some_opens t.list t.tracks t.count (subst (λ v. AreTracks v.list v.tracks v.count) c.self.view_is c.self.invariant.0) (c.has_room.ensures.some some) (c.has_input_last.ensures.none c.if-has_input_last.false)
    (λ h lt. c.loop-gate.invariant h (omega (arith, lt, gates, c.loop-gate-test.false, c.gate_count-gate-end.ensures)))
