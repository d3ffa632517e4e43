use Rattle.gate_layout.proofs.Whole.{layout_is}
use Rattle.gate_layout.proofs.layout.Layout.of.Goals as goal

pub returns-clause-formed : goal.returns-clause-formed
returns-clause-formed c =
    layout_is c.args.circuit.now c.circuit_facts.ensures.nets c.circuit_facts.ensures.inputs c.circuit_facts.ensures.outputs
