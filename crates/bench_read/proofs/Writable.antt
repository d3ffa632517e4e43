-- The circuit of a netlist is one that can be written: each net follows its operands.
use Rattle.std.proofs.Common.{◌≡◌, ℕ, zero, suc, ◌+◌, ◌-◌, ◌<◌, ◌≤◌, Bool, true, false, ◌==◌, List, [], ◌∷◌, ◌++◌, length, map, get_or, Option, None, Some, Ok, refl, sym, ap, ◌∙◌, arith, subst, append_assoc, append-nil, eqb-true}
use Rattle.std.specs.List.{AllByRecursion, range_with_len, sum_by}
use Rattle.std.proofs.lemmas.Bool.{eqb-false}
use Rattle.std.proofs.lemmas.List.{length-append, length-map, get_or_append_left, get_or_push}
use Rattle.std.proofs.lemmas.List.Sums.{sum_by-cons}
use Rattle.std.proofs.lemmas.List.FromFn.{length-range_with_len, get_or-range_with_len, length-map-range_with_len}
use Rattle.circuit_text.specs.declared.kinds.GateOp.{GateOp}
use Rattle.circuit_text.specs.declared.kinds.GateOp.TheVariants.{And, Or, Xor, Nand, Nor, Xnor, Not, Buf}
use Rattle.circuit_text.specs.declared.kinds.Net.{Net}
use Rattle.circuit_text.specs.declared.kinds.Net.TheVariants as net
use Rattle.circuit_text.specs.Values.{has_two, input_numbers, input_count}
use Rattle.circuit_text.specs.Circuits.{circuit_in}
use Rattle.bench_read.specs.Passes.{gate_nets}
use Rattle.bench_read.specs.Netlists.{PlacedGate, Netlist, IsNetlist, IsPlacedGate, AreGates, HasArity, nets_for}
use Rattle.bench_read.specs.Chains.{base_op, links, chain, Circuitry, numbers_at, with_gate, with_gates, input_nets, circuitry_of, circuit_nets, circuit_outputs, text_of}
use Rattle.bench_read.proofs.ChainAgrees.{chain-count, some-net, numbers-arity}
use Rattle.bench_read.proofs.Readback.{names, IsNext, IsWritable, text-read}

writable-append : (before xs ys : List Net) → IsWritable before xs → IsWritable (before ++ xs) ys → IsWritable before (xs ++ ys)
writable-append before [] ys h g = subst (λ b. IsWritable b ys) (append-nil before) g
writable-append before (x ∷ xs) ys h g = (h.0, writable-append (before ++ x ∷ []) xs ys h.1 (subst (λ b. IsWritable b ys) (sym (append_assoc before (x ∷ []) xs)) g))

-- Inputs

count-more : (before : List Net) (k : ℕ) → input_count (before ++ net.Input k ∷ []) ≡ input_count before + 1
count-more [] k = refl
count-more (net.Input number ∷ before) k = omega (arith, count-more before k)
count-more (net.Gate op a b ∷ before) k = count-more before k

count-same : (before : List Net) (op : GateOp) (a : ℕ) (b : Option ℕ) → input_count (before ++ net.Gate op a b ∷ []) ≡ input_count before
count-same [] op a b = refl
count-same (net.Input number ∷ before) op a b = omega (arith, count-same before op a b)
count-same (net.Gate other c d ∷ before) op a b = count-same before op a b

inputs-writable : (before : List Net) (k count : ℕ) → input_count before ≡ k → IsWritable before (map net.Input (range_with_len k count))
inputs-writable before k zero e = tt
inputs-writable before k (suc count) e = (sym e, inputs-writable (before ++ net.Input k ∷ []) (k + 1) count (count-more before k ∙ ap (λ n. n + 1) e))

inputs-count : (before : List Net) (k count : ℕ) → input_count (before ++ map net.Input (range_with_len k count)) ≡ input_count before + count
inputs-count before k zero = ap input_count (append-nil before) ∙ omega arith
inputs-count before k (suc count) =
    ap input_count (sym (append_assoc before (net.Input k ∷ []) (map net.Input (range_with_len (k + 1) count))))
    ∙ omega (arith, inputs-count (before ++ net.Input k ∷ []) (k + 1) count, count-more before k)

-- Chains

two-base : (op : GateOp) → has_two op ≡ true → has_two (base_op op) ≡ true
two-base And h = refl
two-base Or h = refl
two-base Xor h = refl
two-base Nand h = refl
two-base Nor h = refl
two-base Xnor h = refl
two-base Not h = absurd cc
two-base Buf h = absurd cc

below-next : (n : ℕ) (bs : List ℕ) (m : ℕ) → n ≤ m → AllByRecursion (λ b. b < n) bs → AllByRecursion (λ b. b < m) bs
below-next n [] m h all = all
below-next n (b ∷ bs) m h all = (omega (arith, h, all.0), below-next n bs m h all.1)

links-writable : (op : GateOp) (more : List ℕ) (before : List Net) (n a b : ℕ) → has_two op ≡ true → n ≡ length before → a < length before → AllByRecursion (λ x. x < length before) (b ∷ more)
    → IsWritable before (links n op a (b ∷ more))
links-writable op [] before n a b two e lt below = ((lt, below.0, two), tt)
links-writable op (c ∷ more) before n a b two e lt below =
    let x = net.Gate (base_op op) a (Some b) in
    let l : length (before ++ x ∷ []) ≡ length before + 1 = length-append before (x ∷ []) in (
      (lt, below.0, two-base op two),
      links-writable op more (before ++ x ∷ []) (n + 1) n c two (omega (arith, e, l)) (omega (arith, e, l)) (below-next (length before) (c ∷ more) (length (before ++ x ∷ [])) (omega (arith, l)) below.1),
    )

chain-writable : (op : GateOp) (operands : List ℕ) (before : List Net) → HasArity op operands → AllByRecursion (λ x. x < length before) operands → IsWritable before (chain (length before) op operands)
chain-writable op [] before h below = tt
chain-writable op (a ∷ []) before h below = ((below.0, h), tt)
chain-writable op (a ∷ b ∷ more) before h below = links-writable op more before (length before) a b h refl below.0 below.1

links-inputs : (op : GateOp) (more : List ℕ) (before : List Net) (n a b : ℕ) → input_count (before ++ links n op a (b ∷ more)) ≡ input_count before
links-inputs op [] before n a b = count-same before op a (Some b)
links-inputs op (c ∷ more) before n a b =
    let x = net.Gate (base_op op) a (Some b) in
    ap input_count (sym (append_assoc before (x ∷ []) (links (n + 1) op n (c ∷ more)))) ∙ links-inputs op more (before ++ x ∷ []) (n + 1) n c ∙ count-same before (base_op op) a (Some b)

chain-inputs : (op : GateOp) (operands : List ℕ) (before : List Net) (n : ℕ) → input_count (before ++ chain n op operands) ≡ input_count before
chain-inputs op [] before n = ap input_count (append-nil before)
chain-inputs op (a ∷ []) before n = count-same before op a None
chain-inputs op (a ∷ b ∷ more) before n = links-inputs op more before n a b

-- The circuit so far

pub record IsBuilt (places : ℕ) (c : Circuitry) : Type 0 where
  pub count : length c.at ≡ places
  pub within : (p : ℕ) → p < places → get_or c.at p 0 < length c.nets
  pub writable : IsWritable [] c.nets

pub numbers-within : (places : ℕ) (c : Circuitry) → IsBuilt places c → (operands : List ℕ) → AllByRecursion (λ p. p < places) operands → AllByRecursion (λ x. x < length c.nets) (numbers_at c.at operands)
numbers-within places c h [] below = below
numbers-within places c h (p ∷ operands) below = (h.within p below.0, numbers-within places c h operands below.1)

pub gate-built : (places : ℕ) (c : Circuitry) (gate : PlacedGate) → IsBuilt places c → IsPlacedGate places gate → IsBuilt (places + 1) (with_gate c gate)
gate-built places c gate h is = record {
  count = omega (arith, length-append c.at ((length new - 1) ∷ []), h.count);
  within = λ p lt. by p (p == places) refl lt;
  writable = writable-append [] c.nets more h.writable (chain-writable gate.op (numbers_at c.at gate.operands) c.nets (numbers-arity gate.op c.at gate.operands is.arity) (numbers-within places c h gate.operands is.before));
}
  where
    more : List Net
    more = chain (length c.nets) gate.op (numbers_at c.at gate.operands)

    new : List Net
    new = c.nets ++ more

    grown : length new ≡ length c.nets + length more
    grown = length-append c.nets more

    some : 1 ≤ length more
    some = some-net (length c.nets) gate.op (numbers_at c.at gate.operands) (numbers-arity gate.op c.at gate.operands is.arity)

    by : (p : ℕ) (b : Bool) → (p == places) ≡ b → p < places + 1 → get_or (c.at ++ (length new - 1) ∷ []) p 0 < length new
    by p true e lt = omega (arith, get_or_push c.at (length new - 1) 0 p (h.count ∙ sym (eqb-true p places e)), grown, some)
    by p false e lt =
        let ne : p ≡ places → ⊥ = eqb-false p places e in
        let below : p < places = omega (arith, lt, ne) in
        omega (arith, get_or_append_left c.at ((length new - 1) ∷ []) 0 p (omega (arith, below, h.count)), h.within p below, grown)

pub gate-count : (c : Circuitry) (gate : PlacedGate) → HasArity gate.op gate.operands → length (with_gate c gate).nets ≡ length c.nets + gate_nets (length gate.operands)
gate-count c gate h =
    let operands = numbers_at c.at gate.operands in
    omega (arith, length-append c.nets (chain (length c.nets) gate.op operands), chain-count (length c.nets) gate.op operands (numbers-arity gate.op c.at gate.operands h), length-map gate.operands (λ p. get_or c.at p 0))

gates-built : (places : ℕ) (c : Circuitry) (gates : List PlacedGate) → IsBuilt places c → AreGates places gates → IsBuilt (places + length gates) (with_gates c gates)
gates-built places c [] h are = subst (λ n. IsBuilt n c) (omega arith) h
gates-built places c (gate ∷ gates) h are = subst (λ n. IsBuilt n (with_gates (with_gate c gate) gates)) (omega arith) (gates-built (places + 1) (with_gate c gate) gates (gate-built places c gate h are.0) are.1)

pub gates-count : (places : ℕ) (c : Circuitry) (gates : List PlacedGate) → AreGates places gates → length (with_gates c gates).nets ≡ length c.nets + nets_for gates
gates-count places c [] are = omega arith
gates-count places c (gate ∷ gates) are =
    omega (arith, gates-count (places + 1) (with_gate c gate) gates are.1, gate-count c gate are.0.arity, sum_by-cons (λ (g : PlacedGate). gate_nets (length g.operands)) gate gates)

gates-inputs : (c : Circuitry) (gates : List PlacedGate) → input_count (with_gates c gates).nets ≡ input_count c.nets
gates-inputs c [] = refl
gates-inputs c (gate ∷ gates) = gates-inputs (with_gate c gate) gates ∙ chain-inputs gate.op (numbers_at c.at gate.operands) c.nets (length c.nets)

pub inputs-built : (count : ℕ) → IsBuilt count (input_nets count)
inputs-built count = record {
  count = length-range_with_len 0 count;
  within = λ p lt. omega (arith, get_or-range_with_len 0 count p 0 lt, length-map-range_with_len net.Input 0 count, lt);
  writable = inputs-writable [] 0 count refl;
}

-- the circuit of a netlist has as many inputs
pub netlist-inputs : (netlist : Netlist) → input_count (circuit_nets netlist) ≡ netlist.inputs
unfolding circuitry_of
netlist-inputs netlist = omega (arith, gates-inputs (input_nets netlist.inputs) netlist.gates, inputs-count [] 0 netlist.inputs)

-- its nets have room in a circuit text
pub nets-room : (netlist : Netlist) → IsNetlist netlist → length (circuit_nets netlist) ≤ 65536
unfolding circuitry_of
nets-room netlist is =
    omega (arith, gates-count netlist.inputs (input_nets netlist.inputs) netlist.gates is.gates_are, length-map-range_with_len net.Input 0 netlist.inputs, is.few)

-- each placed net has its number
pub netlist-built : (netlist : Netlist) → IsNetlist netlist → IsBuilt (netlist.inputs + length netlist.gates) (circuitry_of netlist)
unfolding circuitry_of
netlist-built netlist is = gates-built netlist.inputs (input_nets netlist.inputs) netlist.gates (inputs-built netlist.inputs) is.gates_are

-- the text of the circuit of a netlist is read as that circuit
pub netlist-read : (netlist : Netlist) → IsNetlist netlist → circuit_in (text_of netlist) ≡ Ok (record { names = names (length (circuit_nets netlist)); nets = circuit_nets netlist; outputs = circuit_outputs netlist })
netlist-read netlist is =
    let built : IsBuilt (netlist.inputs + length netlist.gates) (circuitry_of netlist) = netlist-built netlist is in
    text-read (circuit_nets netlist) (circuit_outputs netlist) built.writable (nets-room netlist is)
    (numbers-within (netlist.inputs + length netlist.gates) (circuitry_of netlist) built netlist.outputs is.outputs_are)
    (omega (arith, length-map netlist.outputs (λ p. get_or (circuitry_of netlist).at p 0), is.some))
