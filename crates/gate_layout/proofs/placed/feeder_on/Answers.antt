use Rattle.std.proofs.Common.{◌≡◌, ℕ, Option, Some, None, refl, sym, ap, ◌∙◌, subst}
use Rattle.std.specs.Prelude.{IsNone}
use Rattle.std.specs.Option.{option_map}
use Rattle.std.proofs.lemmas.Option.{none-some}
use Rattle.gate_layout.specs.Nets.{AreNumbered}
use Rattle.gate_layout.specs.Table.{Spot, spot_of}
use Rattle.gate_layout.proofs.Edges.{none_is, none_if}
use Rattle.gate_layout.proofs.placed.feeder_on.Goals as goal

gone : (o : Option (ℕ × ℕ)) (p : Option Spot) → option_map spot_of o ≡ p → IsNone o → p ≡ None
gone None p is none = sym is
gone (Some s) p is none = absurd cc

there : (o : Option (ℕ × ℕ)) (p : Option Spot) → option_map spot_of o ≡ p → p ≡ None → IsNone o
there None p is none = refl
there (Some s) p is none = absurd (none-some _ (sym none ∙ sym is))

pub returns-clause-none : goal.returns-clause-none
returns-clause-none g c =
    let list = g.P.Placement.net_list c.args.placement.now in
    let p = g.P.Placement.placing c.args.placement.now in
    let are = subst (λ l. AreNumbered l.nets) c.circuit.ensures c.circuit_facts.ensures.inputs in (
      λ none. none_is list p c.requires.placed c.args.row c.args.col c.args.half c.requires.row are (gone c.feeder.result _ c.feeder.ensures none),
      λ one. there c.feeder.result _ c.feeder.ensures (none_if list p c.requires.placed c.args.row c.args.col c.args.half are one),
    )
