use Rattle.std.proofs.Common.{◌<◌, length, subst, sym}
use Rattle.gate_layout.proofs.Gates.{input_inside}
use Rattle.gate_layout.proofs.placed.net_of_input.Goals as goal

pub returns-clause-within : goal.returns-clause-within
returns-clause-within c =
    subst (λ n. n < length c.args.circuit.now.nets) (sym c.input_net.ensures.net) (input_inside c.args.circuit.now.nets c.args.i c.circuit_facts.ensures.inputs c.requires)
