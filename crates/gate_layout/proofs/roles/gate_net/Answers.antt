use Rattle.std.proofs.Common.{◌<◌, length, subst}
use Rattle.std.proofs.lemmas.Option.{get_or_from_slice_get}
use Rattle.circuit_text.specs.Values.{gates_of}
use Rattle.gate_layout.proofs.Gates.{gate_named}
use Rattle.gate_layout.proofs.roles.gate_net.Goals as goal

pub returns-clause-within : goal.returns-clause-within
returns-clause-within c =
    let nets = c.args.circuit.now.nets in
    subst (λ n. n < length nets) (get_or_from_slice_get (gates_of nets) c.args.gate c.gate_net.result 0 c.gate_net.ensures.gate) (gate_named nets c.args.gate c.requires)
