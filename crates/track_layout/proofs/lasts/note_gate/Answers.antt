use Rattle.std.proofs.Common.{◌≡◌, arith, sym, ap, ◌∙◌}
use Rattle.std.proofs.lemmas.Option.{get_or_from_slice_get}
use Rattle.circuit_text.specs.Values.{gates_of}
use Rattle.gate_layout.specs.Nets.{net_of}
use Rattle.gate_layout.specs.Placed.{source}
use Rattle.gate_layout.proofs.LawLemmas.{gate_facts}
use Rattle.track_layout.proofs.Filled.{gate_noted}
use Rattle.track_layout.proofs.lasts.note_gate.Goals as goal

pub index_mut-requires : goal.index_mut-requires
index_mut-requires c =
    let nets = c.args.circuit.now.nets in
    let own : net_of nets c.args.gate ≡ c.gate_net.result = get_or_from_slice_get (gates_of nets) c.args.gate c.gate_net.result 0 c.gate_net.ensures.gate in
    let f = gate_facts nets c.args.gate c.requires.gate in
    omega (arith, own, f.0, c.requires.before.0)

pub returns : goal.returns
returns c =
    let nets = c.args.circuit.now.nets in
    let own : net_of nets c.args.gate ≡ c.gate_net.result = get_or_from_slice_get (gates_of nets) c.args.gate c.gate_net.result 0 c.gate_net.ensures.gate in
    let f = gate_facts nets c.args.gate c.requires.gate in
    gate_noted c.args.circuit.now c.args.firsts.now.items c.args.gate c.gate_net.result own (omega (arith, own, f.0)) (ap (source nets) (sym own) ∙ f.1) c.requires.before
