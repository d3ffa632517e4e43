use Rattle.std.proofs.Common.{◌≡◌, ◌+◌, ◌*◌, ap, arith}
use Rattle.gate_layout.specs.Nets.{gate_at}
use Rattle.gate_layout.specs.Placed.{source_in}
use Rattle.track_layout.specs.Spans.{first}
use Rattle.track_layout.proofs.Steps.{input, no_input}
use Rattle.track_layout.proofs.sweep.begin_input.Goals as goal

pub returns-in-Input-clause-swept : goal.returns-in-Input-clause-swept
returns-in-Input-clause-swept c =
    input c.args.circuit.now c.args.sweep.now.tracks.items c.args.sweep.now.count c.args.net _ c.requires.within (ap (source_in c.args.circuit.now.nets c.args.net) c.in-Input.ensures.net) c.requires.none c.requires.swept

pub returns-in_default-clause-swept : goal.returns-in_default-clause-swept
returns-in_default-clause-swept c =
    no_input c.args.circuit.now c.args.sweep.now.tracks.items c.args.sweep.now.count c.args.net _
    (λ z. let e : first c.args.circuit.now c.args.net ≡ 6 * gate_at c.args.circuit.now.nets c.args.net + 5 = ap (source_in c.args.circuit.now.nets c.args.net) c.in_default.ensures.net in omega (arith, z, e))
    c.requires.swept
