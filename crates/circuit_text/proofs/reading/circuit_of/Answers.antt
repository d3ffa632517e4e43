use Rattle.std.proofs.Common.{length, ap, arith}
use Rattle.circuit_text.proofs.Counts.{gates_few}
use Rattle.circuit_text.proofs.reading.circuit_of.Goals as goal

pub of-requires-clause-few : goal.of-requires-clause-few
of-requires-clause-few c =
    omega (arith, gates_few 0 c.as_slice.result.now, ap length c.in_ok-gates.ensures, ap length c.as_slice.ensures.nets, c.requires.same, c.args.state.few)
