use Rattle.std.proofs.Common.{◌≡◌, Ok, sym, ap, ◌∙◌}
use Rattle.circuit_text.specs.declared.fault.CircuitError.TheVariants.{Fault}
use Rattle.circuit_text.specs.Steps.{state_of}
use Rattle.circuit_text.proofs.Whole.{by_names, all_defined, first_fault}
use Rattle.circuit_text.proofs.reading.read_circuit.Goals as goal

pub returns-in-Err-clause-fault : goal.returns-in-Err-clause-fault
returns-in-Err-clause-fault c f e =
    let same : c.in-Err.error ≡ Fault f = cc in
    first_fault c.args.text.now c.in-Ok.all c.in-Err.error f c.in-Ok.ensures same c.in-Err.ensures.outcome

pub circuit_of-requires-clause-known : goal.circuit_of-requires-clause-known
circuit_of-requires-clause-known c =
    all_defined c.args.text.now c.in-Ok.all c.in-Ok-read_lines.state.names (state_of c.in-Ok-read_lines.state).output_names c.in-Ok.ensures c.in-Ok-read_lines.ensures.names c.in-Ok-read_lines.ensures.known

pub returns-in-Ok-circuit_of-clause-ok : goal.returns-in-Ok-circuit_of-clause-ok
returns-in-Ok-circuit_of-clause-ok c =
    sym (by_names c.args.text.now c.in-Ok.all c.in-Ok.ensures) ∙ c.in-Ok-read_lines.ensures.outcome ∙ ap Ok (sym c.in-Ok-circuit_of.ensures)
