-- The circuit of a netlist, gate by gate.
use Rattle.std.proofs.Common.{◌≡◌, ℕ, suc, ◌+◌, ◌-◌, ◌<◌, ◌≤◌, ◌^◌, List, [], ◌∷◌, ◌++◌, length, map, drop, get_or, refl, sym, ap, ◌∙◌, arith, subst}
use Rattle.std.specs.List.{range_with_len}
use Rattle.std.proofs.Math.Seq.{drop-cons}
use Rattle.std.proofs.lemmas.List.{length-append, length-map, get_or-map, map-id}
use Rattle.std.proofs.lemmas.List.Sums.{sum_by-cons}
use Rattle.std.proofs.lemmas.List.FromFn.{map-range_with_len_more}
use Rattle.circuit_text.specs.declared.kinds.GateOp.{GateOp}
use Rattle.bench_read.specs.declared.bench.PlacedGate.{PlacedGate as GateValue}
use Rattle.bench_read.specs.Passes.{gate_nets}
use Rattle.bench_read.specs.Netlists.{PlacedGate, Netlist, IsPlacedGate, AreGates, HasArity, nets_for}
use Rattle.bench_read.specs.Chains.{chain, Circuitry, numbers_at, with_gate, with_gates, input_nets, circuitry_of}
use Rattle.bench_read.specs.Readings.{gate_of}
use Rattle.bench_read.proofs.ChainAgrees.{chain-count, numbers-arity}
use Rattle.bench_read.proofs.Writable.{gate-count}

-- the first of the gates that are left
pub first-gate : (gates : List GateValue) (i : ℕ) (x : GateValue) → i < length gates → x ≡ get_or gates i x → drop i (map gate_of gates) ≡ gate_of x ∷ drop (i + 1) (map gate_of gates)
first-gate gates i x h e =
    let next : suc i ≡ i + 1 = omega arith in
    let here : get_or (map gate_of gates) i (gate_of x) ≡ gate_of x = get_or-map gate_of gates i x (gate_of x) h ∙ ap gate_of (sym e) in
    drop-cons (map gate_of gates) i (gate_of x) (omega (arith, h, length-map gates gate_of))
    ∙ ap (λ k. get_or (map gate_of gates) i (gate_of x) ∷ drop k (map gate_of gates)) next
    ∙ ap (λ y. y ∷ drop (i + 1) (map gate_of gates)) here

-- one number more
pub range-more : (n : ℕ) → range_with_len 0 (n + 1) ≡ range_with_len 0 n ++ n ∷ []
range-more n = sym (map-id (range_with_len 0 (n + 1))) ∙ map-range_with_len_more (λ x. x) 0 n n (omega arith) ∙ ap (λ t. t ++ n ∷ []) (map-id (range_with_len 0 n))

some-operand : (op : GateOp) (operands : List ℕ) → HasArity op operands → 1 ≤ length operands
some-operand op [] h = absurd h
some-operand op (a ∷ operands) h = omega arith

-- a gate takes at most as many nets as it has operands
pub chain-few : (n : ℕ) (at : List ℕ) (gate : PlacedGate) → HasArity gate.op gate.operands → length (chain n gate.op (numbers_at at gate.operands)) ≤ length gate.operands
chain-few n at gate h =
    let count : length (chain n gate.op (numbers_at at gate.operands)) ≡ gate_nets (length (numbers_at at gate.operands)) = chain-count n gate.op (numbers_at at gate.operands) (numbers-arity gate.op at gate.operands h) in
    let long : length (numbers_at at gate.operands) ≡ length gate.operands = length-map gate.operands (λ p. get_or at p 0) in
    omega (arith, count, long, some-operand gate.op gate.operands h)

-- and has at most one more
operands-few : (gate : PlacedGate) (gates : List PlacedGate) → length gate.operands ≤ nets_for (gate ∷ gates) + 1
operands-few gate gates = omega (arith, sum_by-cons (λ (g : PlacedGate). gate_nets (length g.operands)) gate gates)

-- What stands at a gate, where so many gates are done

module _ (inputs i : ℕ) (c : Circuitry) (all : List PlacedGate) (gate : PlacedGate) (first : drop i all ≡ gate ∷ drop (i + 1) all) where
  pub gate-is : length c.at ≡ inputs + i → AreGates (inputs + i) (drop i all) → IsPlacedGate (length c.at) gate
  gate-is e are =
      let now : AreGates (inputs + i) (gate ∷ drop (i + 1) all) = subst (AreGates (inputs + i)) first are in
      subst (λ n. IsPlacedGate n gate) (sym e) now.0

  pub gate-fits : length c.nets + nets_for (drop i all) ≤ 65536 → length c.nets + length gate.operands < 2 ^ 32
  gate-fits few = omega (arith, few, ap nets_for first, operands-few gate (drop (i + 1) all))

  pub rest-more : (total : Circuitry) → with_gates c (drop i all) ≡ total → with_gates (with_gate c gate) (drop (i + 1) all) ≡ total
  rest-more total e = sym (ap (with_gates c) first) ∙ e

  pub at-more : length c.at ≡ inputs + i → length (with_gate c gate).at ≡ inputs + (i + 1)
  at-more e = omega (arith, e, length-append c.at ((length (with_gate c gate).nets - 1) ∷ []))

  pub gates-more : AreGates (inputs + i) (drop i all) → AreGates (inputs + (i + 1)) (drop (i + 1) all)
  gates-more are =
      let now : AreGates (inputs + i) (gate ∷ drop (i + 1) all) = subst (AreGates (inputs + i)) first are in
      let next : inputs + i + 1 ≡ inputs + (i + 1) = omega arith in
      subst (λ n. AreGates n (drop (i + 1) all)) next now.1

  pub few-more : AreGates (inputs + i) (drop i all) → length c.nets + nets_for (drop i all) ≤ 65536 → length (with_gate c gate).nets + nets_for (drop (i + 1) all) ≤ 65536
  few-more are few =
      let now : AreGates (inputs + i) (gate ∷ drop (i + 1) all) = subst (AreGates (inputs + i)) first are in
      omega (arith, few, ap nets_for first, gate-count c gate now.0.arity, sum_by-cons (λ (g : PlacedGate). gate_nets (length g.operands)) gate (drop (i + 1) all))

-- and at the end
pub circuit-is : (netlist : Netlist) → with_gates (input_nets netlist.inputs) netlist.gates ≡ circuitry_of netlist
unfolding circuitry_of
circuit-is netlist = refl
