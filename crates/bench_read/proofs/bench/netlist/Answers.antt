use Rattle.std.proofs.Common.{◌≡◌, ◌+◌, ◌<◌, ◌≤◌, length, map, sym, ap, ◌∙◌, subst, arith}
use Rattle.std.specs.List.{AllByRecursion}
use Rattle.bench_read.specs.Order.{place_of}
use Rattle.bench_read.specs.Netlists.{Netlist, IsNetlist, gates_among}
use Rattle.bench_read.specs.Chains.{Circuitry, numbers_at, with_gates, input_nets, circuitry_of}
use Rattle.bench_read.specs.Readings.{item_of, gate_of, circuitry_by}
use Rattle.bench_read.proofs.Building.{circuit-is}
use Rattle.bench_read.proofs.Writable.{nets-room, netlist-built}
use Rattle.bench_read.proofs.bench.netlist.Goals as goal

pub numbers_at-requires : goal.numbers_at-requires
numbers_at-requires c =
    let gates = c.in_ok-gates.gates.items in
    let outputs = c.in_ok-outputs.outputs.items in
    let n : Netlist = record { inputs = c.args.inputs; gates = map gate_of gates; outputs = outputs } in
    let placed = c.args.order.now.placed in
    let gates_are : map gate_of gates ≡ gates_among (map item_of c.args.resolved.now.items.items) placed placed =
    c.in_ok-gates.ensures ∙ ap (λ xs. gates_among (map item_of xs) placed placed) c.deref.ensures.value
    in
    let outputs_are : outputs ≡ map (place_of placed) c.args.resolved.now.outputs.items = c.in_ok-outputs.ensures ∙ ap (map (place_of placed)) c.deref-2.ensures.value in
    let sound : IsNetlist n = subst IsNetlist (λ i. record { inputs = c.args.inputs; gates = sym gates_are i; outputs = sym outputs_are i }) c.requires.sound in
    let circuit : circuitry_by c.in_ok-circuit.circuit ≡ circuitry_of n =
    c.in_ok-circuit.ensures ∙ ap (λ gs. with_gates (input_nets c.args.inputs) (map gate_of gs)) c.deref-3.ensures.value ∙ circuit-is n
    in
    let count : length c.deref-4.result.now ≡ c.args.inputs + length (map gate_of gates) =
    ap length c.deref-4.ensures.value ∙ ap (λ (y : Circuitry). length y.at) circuit ∙ (netlist-built n sound).count
    in
    subst (λ k. AllByRecursion (λ p. p < k) c.deref-5.result.now) (sym count)
    (subst (AllByRecursion (λ p. p < c.args.inputs + length (map gate_of gates))) (sym c.deref-5.ensures.value) sound.outputs_are)

pub invariant_of-result : goal.invariant_of-result
invariant_of-result c =
    let gates = c.in_ok-gates.gates.items in
    let outputs = c.in_ok-outputs.outputs.items in
    let n : Netlist = record { inputs = c.args.inputs; gates = map gate_of gates; outputs = outputs } in
    let placed = c.args.order.now.placed in
    let gates_are : map gate_of gates ≡ gates_among (map item_of c.args.resolved.now.items.items) placed placed =
    c.in_ok-gates.ensures ∙ ap (λ xs. gates_among (map item_of xs) placed placed) c.deref.ensures.value
    in
    let outputs_are : outputs ≡ map (place_of placed) c.args.resolved.now.outputs.items = c.in_ok-outputs.ensures ∙ ap (map (place_of placed)) c.deref-2.ensures.value in
    let sound : IsNetlist n = subst IsNetlist (λ i. record { inputs = c.args.inputs; gates = sym gates_are i; outputs = sym outputs_are i }) c.requires.sound in
    let circuit : circuitry_by c.in_ok-circuit.circuit ≡ circuitry_of n =
    c.in_ok-circuit.ensures ∙ ap (λ gs. with_gates (input_nets c.args.inputs) (map gate_of gs)) c.deref-3.ensures.value ∙ circuit-is n
    in (
      omega (arith, ap (λ (y : Circuitry). length y.nets) circuit, nets-room n sound),
      ap (λ (y : Circuitry). y.nets) circuit,
      c.in_ok-output_nets.ensures ∙ ap (λ at. numbers_at at c.deref-5.result.now) c.deref-4.ensures.value
          ∙ ap (numbers_at c.in_ok-circuit.circuit.at.items) c.deref-5.ensures.value ∙ ap (λ (y : Circuitry). numbers_at y.at outputs) circuit,
    )
