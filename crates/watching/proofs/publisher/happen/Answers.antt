use Rattle.std.proofs.Common.{◌≡◌, List, Some, sym, ap, ◌∙◌, subst, arith, IfSome}
use Rattle.std.specs.Prelude.{Option, is_some}
use Rattle.surf_kinds.specs.declared.site.Sites.{Sites}
use Rattle.surf_kinds.specs.declared.site.SpeciesId.{SpeciesId}
use Rattle.lattice.specs.Places.{sites_of}
use Rattle.lattice.proofs.LawLemmas.{first_below}
use Rattle.plan.proofs.LawLemmas.{fits_products}
use Rattle.watching.specs.Changes.{second_change, second_cells}
use Rattle.watching.proofs.Publishing.{happened, each_second}
use Rattle.watching.proofs.publisher.happen.Goals as goal

pub put-old-requires : goal.put-old-requires
put-old-requires c =
    let is : sites_of c.args.plan.now.lattice c.args.event.place.0 ≡ Some c.unwrap-place.result = ap (λ l. sites_of l c.args.event.place.0) (sym c.lattice.ensures) ∙ (sym c.sites_of.ensures ∙ c.unwrap-place.ensures) in
    omega (arith, first_below c.args.plan.now.lattice c.args.event.place.0 c.unwrap-place.result is, c.requires.long)

pub put_second-second-requires : goal.put_second-second-requires
put_second-second-requires c =
    let is : sites_of c.args.plan.now.lattice c.args.event.place.0 ≡ Some c.unwrap-place.result = ap (λ l. sites_of l c.args.event.place.0) (sym c.lattice.ensures) ∙ (sym c.sites_of.ensures ∙ c.unwrap-place.ensures) in
    each_second c.args.plan.now.lattice c.args.event.place.0 c.unwrap-place.result is c.args.cells.now c.put-old.new.cells c.unwrap-place.result.first.0 c.products-to.result.0 c.requires.long c.put-old.ensures.new

pub returns-clause-change : goal.returns-clause-change
returns-clause-change c sites same =
    let is : sites_of c.args.plan.now.lattice c.args.event.place.0 ≡ Some c.unwrap-place.result = ap (λ l. sites_of l c.args.event.place.0) (sym c.lattice.ensures) ∙ (sym c.sites_of.ensures ∙ c.unwrap-place.ensures) in
    let pairs = subst (λ (o : Option Sites). IfSome o (λ p. is_some c.products-to.result.1 ≡ is_some p.second)) is (fits_products c.args.plan.now c.args.event.place.0 c.args.event.channel c.products-to.result c.requires.fits c.products-to.ensures) in
    (λ i. record {
      time = c.args.event.time;
      out1 = c.put-old.ensures.old i;
      in1 = c.products-to.result.0;
      second = (c.put_second-second.ensures.change ∙ ap (λ (l : List SpeciesId). second_change l c.unwrap-place.result.second c.products-to.result.1) c.put-old.ensures.new) i;
    })
    ∙ (happened c.args.plan.now.lattice c.args.plan.now.rules sites c.args.cells.now c.args.event c.requires.long same c.unwrap-place.result is c.products-to.result c.products-to.ensures pairs).0

pub returns-clause-cells : goal.returns-clause-cells
returns-clause-cells c sites same =
    let is : sites_of c.args.plan.now.lattice c.args.event.place.0 ≡ Some c.unwrap-place.result = ap (λ l. sites_of l c.args.event.place.0) (sym c.lattice.ensures) ∙ (sym c.sites_of.ensures ∙ c.unwrap-place.ensures) in
    let pairs = subst (λ (o : Option Sites). IfSome o (λ p. is_some c.products-to.result.1 ≡ is_some p.second)) is (fits_products c.args.plan.now c.args.event.place.0 c.args.event.channel c.products-to.result c.requires.fits c.products-to.ensures) in
    (c.put_second-second.ensures.cells ∙ ap (λ (l : List SpeciesId). second_cells l c.unwrap-place.result.second c.products-to.result.1) c.put-old.ensures.new)
    ∙ (happened c.args.plan.now.lattice c.args.plan.now.rules sites c.args.cells.now c.args.event c.requires.long same c.unwrap-place.result is c.products-to.result c.products-to.ensures pairs).1
