use Rattle.gate_layout.proofs.Whole.{layout_is}
use Rattle.gate_layout.proofs.laws.layouts_are_well_formed.Goals as goal

pub returns : goal.returns
returns c = layout_is c.args.circuit.now c.circuit_facts.ensures.nets c.circuit_facts.ensures.inputs c.circuit_facts.ensures.outputs
