use Rattle.circuit_text.specs.Values.{values_of}
use Rattle.gate_layout.specs.Layout.{layout}
use Rattle.surface_top.proofs.CircuitEnds.{each_runs}
use Rattle.surface_top.proofs.laws.compiled_circuits_run_to_their_values.Goals as goal

pub returns : goal.returns
returns c = record {
  runs =
      each_runs c.args.circuit.now c.args.inputs.now (values_of c.args.circuit.now.nets c.args.inputs.now) (layout c.args.circuit.now) c.compile.result
      c.compile.ensures.compiled c.compile.ensures.valid c.compile.ensures.short c.compile.ensures.runs c.read_again.ensures;
}
