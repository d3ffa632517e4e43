use Rattle.std.proofs.Common.{ℕ, ap, ◌∙◌}
use Rattle.surf_kinds.specs.declared.site.SpeciesId.{SpeciesId}
use Rattle.crn_compile.proofs.Blanks.{gate_inside, gate_blank_number, no_input_gate}
use Rattle.crn_compile.proofs.cells.blank_species.Goals as goal

pub net-requires : goal.net-requires
net-requires c = gate_inside c.args.circuit.now.nets c.args.role c.in-Gate.gate c.gate_net.result c.requires.named c.in-Gate.is c.gate_net.ensures.gate

pub returns-in-Gate-net : goal.returns-in-Gate-net
returns-in-Gate-net c =
    ap (λ (n : ℕ). let v : SpeciesId = record { 0 = n } in v)
    (c.gate_number.ensures ∙ gate_blank_number c.args.circuit.now.nets c.args.role c.in-Gate.gate c.gate_net.result c.net.result c.in-Gate-net.op c.in-Gate-net.a c.in-Gate-net.b c.in-Gate.is c.gate_net.ensures.gate c.net.ensures.net c.in-Gate-net.is)

pub returns-in-Input : goal.returns-in-Input
returns-in-Input c = absurd (no_input_gate c.args.circuit.now.nets c.args.role c.in-Gate.gate c.gate_net.result c.in-Input.number c.net.result c.requires.named c.in-Gate.is c.gate_net.ensures.gate c.net.ensures.net c.in-Input.is)
