use Rattle.std.proofs.Common.{ap, arith}
use Rattle.std.proofs.lemmas.Grind.{common_steps}
use Rattle.lattice.specs.Shape.{Shape}
use Rattle.lattice.proofs.Steps.{north_past}
use Rattle.lattice.proofs.grid.Lattice.north.Goals as goal

pub returns-then-wraps : goal.returns-then-wraps
returns-then-wraps c =
    let cols = ap (λ (l : Shape). l.cols) c.self.view_is in
    let past = north_past c.args.self.now c.args.site c.requires.site (omega (arith, cols)) in
    grind (arith, common_steps, past)
