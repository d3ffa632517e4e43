-- The circuit of a netlist has its values.
use Rattle.std.proofs.Common.{◌≡◌, ℕ, zero, suc, ◌+◌, ◌-◌, ◌<◌, ◌≤◌, Bool, true, false, ◌==◌, List, [], ◌∷◌, ◌++◌, length, map, get_or, refl, sym, ap, ◌∙◌, arith, subst, append_assoc, append-nil, eqb-true}
use Rattle.std.specs.List.{AllByRecursion, range_with_len, sum_by}
use Rattle.std.proofs.lemmas.List.{length-append, length-map, get_or_append_left, get_or_push}
use Rattle.std.proofs.lemmas.List.FromFn.{length-range_with_len, get_or-range_with_len, length-map-range_with_len, get_or-map-range_with_len}
use Rattle.std.proofs.lemmas.Bool.{eqb-false}
use Rattle.circuit_text.specs.declared.kinds.GateOp.{GateOp}
use Rattle.circuit_text.specs.declared.kinds.Net.{Net}
use Rattle.circuit_text.specs.declared.kinds.Net.TheVariants as net
use Rattle.circuit_text.specs.Values.{bit, net_value, values_after, values_of}
use Rattle.bench_read.specs.Passes.{gate_nets}
use Rattle.bench_read.specs.Netlists.{PlacedGate, Netlist, IsNetlist, IsPlacedGate, AreGates, HasArity, value_by, values_behind, output_values, nets_for}
use Rattle.bench_read.specs.Chains.{links, chain, Circuitry, numbers_at, with_gate, with_gates, input_nets, circuitry_of, circuit_nets, circuit_outputs}
use Rattle.bench_read.proofs.ChainValues.{count-after, values-kept, values-append, last_bit, chain-value}

-- How many nets

links-count : (n : ℕ) (op : GateOp) (a b : ℕ) (more : List ℕ) → length (links n op a (b ∷ more)) ≡ length more + 1
links-count n op a b [] = refl
links-count n op a b (c ∷ more) =
    let rest = links-count (n + 1) op n c more in
    omega (arith, rest)

pub chain-count : (n : ℕ) (op : GateOp) (operands : List ℕ) → HasArity op operands → length (chain n op operands) ≡ gate_nets (length operands)
chain-count n op [] h = absurd h
chain-count n op (a ∷ []) h = omega arith
chain-count n op (a ∷ b ∷ more) h =
    let rest = links-count n op a b more in
    omega (arith, rest)

pub some-net : (n : ℕ) (op : GateOp) (operands : List ℕ) → HasArity op operands → 1 ≤ length (chain n op operands)
some-net n op operands h = omega (arith, chain-count n op operands h)

pub numbers-arity : (op : GateOp) (at operands : List ℕ) → HasArity op operands → HasArity op (numbers_at at operands)
numbers-arity op at [] h = h
numbers-arity op at (a ∷ []) h = h
numbers-arity op at (a ∷ b ∷ more) h = h

-- Values

module _ (inputs : List Bool) where
  -- each net of a netlist has a number in the circuit, and its value there
  pub record Agrees (known : List Bool) (c : Circuitry) : Type 0 where
    pub count : length c.at ≡ length known
    pub within : (p : ℕ) → p < length known → get_or c.at p 0 < length c.nets
    pub same : (p : ℕ) → p < length known → bit (values_after inputs [] c.nets) (get_or c.at p 0) ≡ bit known p

  numbers-within : (known : List Bool) (c : Circuitry) → Agrees known c → (operands : List ℕ) → AllByRecursion (λ p. p < length known) operands
      → AllByRecursion (λ x. x < length (values_after inputs [] c.nets)) (numbers_at c.at operands)
  numbers-within known c h [] below = below
  numbers-within known c h (p ∷ operands) below =
      (omega (arith, h.within p below.0, count-after inputs [] c.nets), numbers-within known c h operands below.1)

  numbers-same : (known : List Bool) (c : Circuitry) → Agrees known c → (operands : List ℕ) → AllByRecursion (λ p. p < length known) operands
      → map (bit (values_after inputs [] c.nets)) (numbers_at c.at operands) ≡ map (bit known) operands
  numbers-same known c h [] below = refl
  numbers-same known c h (p ∷ operands) below =
      let first : bit (values_after inputs [] c.nets) (get_or c.at p 0) ≡ bit known p = h.same p below.0 in
      let rest : map (bit (values_after inputs [] c.nets)) (numbers_at c.at operands) ≡ map (bit known) operands = numbers-same known c h operands below.1 in
      rw (first, rest) refl

  -- a gate more
  gate-agrees : (known : List Bool) (c : Circuitry) (gate : PlacedGate) → Agrees known c → IsPlacedGate (length known) gate
      → Agrees (known ++ value_by gate.op (map (bit known) gate.operands) ∷ []) (with_gate c gate)
  gate-agrees known c gate h is = record {
    count = omega (arith, length-append c.at ((length new - 1) ∷ []), length-append known (value ∷ []), h.count);
    within = λ p lt. by_within p (p == length known) refl lt;
    same = λ p lt. by_same p (p == length known) refl lt;
  }
    where
      operands : List ℕ
      operands = numbers_at c.at gate.operands

      more : List Net
      more = chain (length c.nets) gate.op operands

      new : List Net
      new = c.nets ++ more

      value : Bool
      value = value_by gate.op (map (bit known) gate.operands)

      grown : length new ≡ length c.nets + length more
      grown = length-append c.nets more

      some : 1 ≤ length more
      some = some-net (length c.nets) gate.op operands (numbers-arity gate.op c.at gate.operands is.arity)

      old_at : (p : ℕ) → p < length known → get_or (c.at ++ (length new - 1) ∷ []) p 0 ≡ get_or c.at p 0
      old_at p lt = get_or_append_left c.at ((length new - 1) ∷ []) 0 p (omega (arith, lt, h.count))

      new_at : get_or (c.at ++ (length new - 1) ∷ []) (length known) 0 ≡ length new - 1
      new_at = get_or_push c.at (length new - 1) 0 (length known) h.count

      behind : (p : ℕ) → (p == length known) ≡ false → p < length (known ++ value ∷ []) → p < length known
      behind p e lt =
          let ne : p ≡ length known → ⊥ = eqb-false p (length known) e in
          omega (arith, lt, length-append known (value ∷ []), ne)

      by_within : (p : ℕ) (b : Bool) → (p == length known) ≡ b → p < length (known ++ value ∷ []) → get_or (c.at ++ (length new - 1) ∷ []) p 0 < length new
      by_within p true e lt = subst (λ q. get_or (c.at ++ (length new - 1) ∷ []) q 0 < length new) (sym (eqb-true p (length known) e)) (omega (arith, new_at, grown, some))
      by_within p false e lt = omega (arith, old_at p (behind p e lt), h.within p (behind p e lt), grown)

      first : List Bool
      first = values_after inputs [] c.nets

      whole : values_after inputs [] new ≡ values_after inputs first more
      whole = values-append inputs [] c.nets more

      long : length first ≡ length c.nets
      long = count-after inputs [] c.nets ∙ omega arith

      last : bit (values_after inputs [] new) (length new - 1) ≡ value
      last =
          ap (λ v. bit v (length new - 1)) whole
          ∙ ap (λ k. bit (values_after inputs first more) k) (omega (arith, grown, count-after inputs first more, long))
          ∙ ap (λ n. last_bit (values_after inputs first (chain n gate.op operands))) (sym long)
          ∙ chain-value inputs gate.op operands first (numbers-arity gate.op c.at gate.operands is.arity) (numbers-within known c h gate.operands is.before)
          ∙ ap (value_by gate.op) (numbers-same known c h gate.operands is.before)

      by_same : (p : ℕ) (b : Bool) → (p == length known) ≡ b → p < length (known ++ value ∷ []) → bit (values_after inputs [] new) (get_or (c.at ++ (length new - 1) ∷ []) p 0) ≡ bit (known ++ value ∷ []) p
      by_same p true e lt =
          subst (λ q. bit (values_after inputs [] new) (get_or (c.at ++ (length new - 1) ∷ []) q 0) ≡ bit (known ++ value ∷ []) q) (sym (eqb-true p (length known) e))
          (ap (bit (values_after inputs [] new)) new_at ∙ last ∙ sym (get_or_push known value false (length known) refl))
      by_same p false e lt =
          let before : p < length known = behind p e lt in
          ap (bit (values_after inputs [] new)) (old_at p before) ∙ ap (λ v. bit v (get_or c.at p 0)) whole
          ∙ values-kept inputs first more (get_or c.at p 0) (omega (arith, h.within p before, long)) ∙ h.same p before
          ∙ sym (get_or_append_left known (value ∷ []) false p before)

  pub gates-agree : (known : List Bool) (c : Circuitry) (gates : List PlacedGate) → Agrees known c → AreGates (length known) gates → Agrees (values_behind known gates) (with_gates c gates)
  gates-agree known c [] h are = h
  gates-agree known c (gate ∷ gates) h are =
      let value = value_by gate.op (map (bit known) gate.operands) in
      let l : length known + 1 ≡ length (known ++ value ∷ []) = sym (length-append known (value ∷ [])) in
      gates-agree (known ++ value ∷ []) (with_gate c gate) gates (gate-agrees known c gate h are.0) (subst (λ n. AreGates n gates) l are.1)

  input-values : (known : List Bool) (from count : ℕ) → length known ≡ from → values_after inputs known (map net.Input (range_with_len from count)) ≡ known ++ map (bit inputs) (range_with_len from count)
  input-values known from zero e = sym (append-nil known)
  input-values known from (suc count) e =
      input-values (known ++ bit inputs from ∷ []) (from + 1) count (omega (arith, e, length-append known (bit inputs from ∷ [])))
      ∙ append_assoc known (bit inputs from ∷ []) (map (bit inputs) (range_with_len (from + 1) count))

  pub inputs-agree : Agrees inputs (input_nets (length inputs))
  inputs-agree = record {
    count = length-range_with_len 0 (length inputs);
    within = λ p lt. omega (arith, get_or-range_with_len 0 (length inputs) p 0 lt, length-map-range_with_len net.Input 0 (length inputs), lt);
    same = λ p lt.
        let at : get_or (range_with_len 0 (length inputs)) p 0 ≡ p = get_or-range_with_len 0 (length inputs) p 0 lt ∙ omega arith in
        ap (λ v. bit v (get_or (range_with_len 0 (length inputs)) p 0)) (input-values [] 0 (length inputs) refl)
        ∙ ap (bit (map (bit inputs) (range_with_len 0 (length inputs)))) at
        ∙ get_or-map-range_with_len (bit inputs) 0 (length inputs) p p false lt (omega arith);
  }

-- the values of the outputs
outputs-same : (inputs known : List Bool) (c : Circuitry) → Agrees inputs known c → (outputs : List ℕ) → AllByRecursion (λ p. p < length known) outputs
    → map (bit (values_after inputs [] c.nets)) (numbers_at c.at outputs) ≡ map (bit known) outputs
outputs-same inputs known c h [] below = refl
outputs-same inputs known c h (p ∷ outputs) below =
    let first : bit (values_after inputs [] c.nets) (get_or c.at p 0) ≡ bit known p = h.same p below.0 in
    let rest : map (bit (values_after inputs [] c.nets)) (numbers_at c.at outputs) ≡ map (bit known) outputs = outputs-same inputs known c h outputs below.1 in
    rw (first, rest) refl

values-count : (known : List Bool) (gates : List PlacedGate) → length (values_behind known gates) ≡ length known + length gates
values-count known [] = omega arith
values-count known (gate ∷ gates) =
    let value = value_by gate.op (map (bit known) gate.operands) in
    let rest = values-count (known ++ value ∷ []) gates in
    omega (arith, rest, length-append known (value ∷ []))

-- for all inputs, each output has the value that it has in the netlist
pub netlist-values : (netlist : Netlist) (inputs : List Bool) → IsNetlist netlist → length inputs ≡ netlist.inputs
    → map (bit (values_of (circuit_nets netlist) inputs)) (circuit_outputs netlist) ≡ output_values netlist inputs
unfolding values_of circuitry_of output_values
netlist-values netlist inputs is count =
    let c = with_gates (input_nets netlist.inputs) netlist.gates in
    let start : Agrees inputs inputs (input_nets netlist.inputs) = subst (λ n. Agrees inputs inputs (input_nets n)) count (inputs-agree inputs) in
    let end : Agrees inputs (values_behind inputs netlist.gates) c
    = gates-agree inputs inputs (input_nets netlist.inputs) netlist.gates start (subst (λ n. AreGates n netlist.gates) (sym count) is.gates_are) in
    outputs-same inputs (values_behind inputs netlist.gates) c end netlist.outputs
    (subst (λ n. AllByRecursion (λ p. p < n) netlist.outputs) (sym (values-count inputs netlist.gates ∙ ap (λ n. n + length netlist.gates) count)) is.outputs_are)
