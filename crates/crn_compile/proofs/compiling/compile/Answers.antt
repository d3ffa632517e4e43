use Rattle.std.proofs.Common.{◌^◌, subst}
use Rattle.circuit_text.specs.Circuits.{NetList}
use Rattle.circuit_text.specs.Values.{values_of}
use Rattle.gate_layout.specs.Layout.{layout}
use Rattle.crn_compile.specs.Settled.{RunsOut}
use Rattle.crn_compile.proofs.compiling.compile.Goals as goal

pub returns-in-Ok-compile_on-clause-runs : goal.returns-in-Ok-compile_on-clause-runs
returns-in-Ok-compile_on-clause-runs c seed =
    subst (λ (l : NetList). RunsOut c.args.circuit.now (values_of c.args.circuit.now.nets c.args.inputs.now) (layout l) c.in-Ok-compile_on.manifest.cells seed (10 ^ 15)) c.in-Ok.ensures.laid (c.in-Ok-compile_on.ensures.runs seed)
