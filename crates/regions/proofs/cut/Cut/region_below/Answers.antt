use Rattle.std.proofs.Common.{subst, arith}
use Rattle.regions.specs.Bands.{IsCut}
use Rattle.regions.proofs.Rows.{few_rows}
use Rattle.regions.proofs.cut.Cut.region_below.Goals as goal

pub overflow_add-row : goal.overflow_add-row
overflow_add-row c =
    let cut : IsCut c.args.self.now = subst IsCut c.self.view_is c.self.invariant in
    omega (arith, few_rows c.args.self.now cut, c.requires)
