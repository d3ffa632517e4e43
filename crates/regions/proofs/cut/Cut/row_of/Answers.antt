use Rattle.std.proofs.Common.{◌≡◌, ℕ, ◌*◌, ◌/◌, ◌<◌, sym, ap, ◌∙◌, subst, arith}
use Rattle.lattice.specs.Shape.{Shape}
use Rattle.lattice.specs.Rows.{row_of_place}
use Rattle.lattice.proofs.LawLemmas.{row_below}
use Rattle.surf_kinds.specs.Steps.{site_of_place}
use Rattle.regions.specs.Bands.{Bands}
use Rattle.regions.proofs.Owners.{sites_at, number_below}
use Rattle.regions.proofs.cut.Cut.row_of.Goals as goal

pub overflow_cast-result : goal.overflow_cast-result
overflow_cast-result c =
    let p = sites_at c.args.self.now.lattice c.args.place.0 c.requires in
    omega (arith, c.site.ensures, number_below c.args.self.now.lattice c.args.place.0 p.0 p.1, c.cols-cols.ensures.sites, ap (λ (b : Bands). b.lattice.rows * b.lattice.cols) c.self.view_is)

quotient_is : (l : Shape) (place site cols : ℕ) → site ≡ site_of_place place → cols ≡ l.cols → site / cols ≡ row_of_place l place
quotient_is l place site cols s c = ap (λ k. k / cols) s ∙ ap (λ k. site_of_place place / k) c

pub returns-clause-row : goal.returns-clause-row
returns-clause-row c =
    quotient_is c.args.self.now.lattice c.args.place.0 c.site.result c.cols-cols.result c.site.ensures (c.cols-cols.ensures.cols ∙ ap (λ (b : Bands). b.lattice.cols) c.self.view_is)

pub returns-clause-within : goal.returns-clause-within
returns-clause-within c =
    let p = sites_at c.args.self.now.lattice c.args.place.0 c.requires in
    subst (λ k. k < c.args.self.now.lattice.rows) (sym (returns-clause-row c)) (row_below c.args.self.now.lattice c.args.place.0 p.0 p.1)
