use Rattle.std.proofs.Common.{◌*◌, ◌<◌, sym, ap, subst, arith}
use Rattle.lattice.specs.Shape.{Shape}
use Rattle.lattice.proofs.With.{numbered_below, with_first, with_second}
use Rattle.lattice.proofs.grid.Lattice.sites_with.Goals as goal

pub overflow_cast-first : goal.overflow_cast-first
overflow_cast-first c =
    let few = numbered_below c.args.self.now c.args.place.0 c.args.site.0 c.requires in
    omega (arith, few, c.site-first.ensures, c.self.invariant.at_most, ap (λ (l : Shape). l.rows * l.cols) c.self.view_is)

pub beside-second-requires : goal.beside-second-requires
beside-second-requires c = subst (λ k. k < c.args.self.now.rows * c.args.self.now.cols) (sym c.site-first.ensures) (numbered_below c.args.self.now c.args.place.0 c.args.site.0 c.requires)

pub returns-then-first-site : goal.returns-then-first-site
returns-then-first-site c = with_first c.args.self.now c.args.place.0 c.args.site.0 c.site-first.result c.step.result c.beside-second.result c.requires c.site-first.ensures c.step.ensures c.beside-second.ensures

pub returns-else-first-site : goal.returns-else-first-site
returns-else-first-site c = with_second c.args.self.now c.args.place.0 c.site-first.result c.args.site c.requires c.site-first.ensures c.if-first-site.false
