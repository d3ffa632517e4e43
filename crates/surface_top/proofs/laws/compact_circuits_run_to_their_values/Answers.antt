use Rattle.circuit_text.specs.Values.{values_of}
use Rattle.surface_top.proofs.CircuitEnds.{compact_runs}
use Rattle.surface_top.proofs.laws.compact_circuits_run_to_their_values.Goals as goal

pub returns : goal.returns
returns c = record { runs = compact_runs c.args.circuit.now c.args.inputs.now c.compact.result c.compact.ensures.compact c.read_again.ensures }
