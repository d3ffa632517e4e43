use Rattle.std.proofs.Common.{ℕ, ◌<◌, length, get_or, subst}
use Rattle.circuit_text.specs.Values.{AreNets}
use Rattle.gate_layout.specs.Nets.{AreNumbered}
use Rattle.gate_layout.proofs.Whole.{table_is}
use Rattle.gate_layout.proofs.laws.placed_tables_are_well_formed.Goals as goal

pub returns : goal.returns
returns g c =
    table_is (g.P.Placement.net_list c.args.placement.now) (g.P.Placement.placing c.args.placement.now)
    (subst (λ l. AreNets l.nets) c.circuit.ensures c.circuit_facts.ensures.nets)
    (subst (λ l. AreNumbered l.nets) c.circuit.ensures c.circuit_facts.ensures.inputs)
    (subst (λ l. (i : ℕ) → i < length l.outputs → get_or l.outputs i 0 < length l.nets) c.circuit.ensures c.circuit_facts.ensures.outputs)
    c.requires
