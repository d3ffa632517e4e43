use Rattle.std.proofs.Common.{◌≡◌, ℕ, ◌+◌, ◌-◌, ◌*◌, ◌/◌, ◌<◌, ap, sym, ◌∙◌, subst, arith}
use Rattle.regions.specs.Bands.{Bands, IsCut, region_of}
use Rattle.regions.proofs.Rows.{few_rows, region_by_quotient, region_has}
use Rattle.regions.proofs.cut.Cut.region_of.Goals as goal

pub overflow_add-result : goal.overflow_add-result
overflow_add-result c =
    let cut : IsCut c.args.self.now = subst IsCut c.self.view_is c.self.invariant in
    omega (arith, few_rows c.args.self.now cut, c.requires)

quotient_is : (inside b : Bands) (row rows : ℕ) → inside ≡ b → rows ≡ inside.lattice.rows → IsCut b → row < b.lattice.rows → ((row + 1) * inside.count - 1) / rows ≡ region_of b row
quotient_is inside b row rows same is cut below =
    ap (λ k. ((row + 1) * inside.count - 1) / k) is
    ∙ ap (λ (x : Bands). ((row + 1) * x.count - 1) / x.lattice.rows) same
    ∙ sym (region_by_quotient b row cut below)

pub returns-clause-region : goal.returns-clause-region
returns-clause-region c =
    let cut : IsCut c.args.self.now = subst IsCut c.self.view_is c.self.invariant in
    quotient_is _ c.args.self.now c.args.row c.rows-rows.result c.self.view_is c.rows-rows.ensures.rows cut c.requires

pub returns-clause-below : goal.returns-clause-below
returns-clause-below c =
    let cut : IsCut c.args.self.now = subst IsCut c.self.view_is c.self.invariant in
    let is = quotient_is _ c.args.self.now c.args.row c.rows-rows.result c.self.view_is c.rows-rows.ensures.rows cut c.requires in
    subst (λ k. k < c.args.self.now.count) (sym is) (region_has c.args.self.now c.args.row cut c.requires).below
