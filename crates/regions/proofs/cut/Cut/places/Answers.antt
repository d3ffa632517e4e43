use Rattle.std.proofs.Common.{arith}
use Rattle.regions.proofs.Ranges.{is_range}
use Rattle.regions.proofs.cut.Cut.places.Goals as goal

pub overflow_add-region : goal.overflow_add-region
overflow_add-region c = omega (arith, c.requires, c.if-prove.false, c.count.ensures.count)

pub returns-clause-own : goal.returns-clause-own
returns-clause-own c =
    rw (c.first_place.ensures, c.first_place-2.ensures) (is_range c.args.self.now c.args.region c.count.ensures.cut c.requires)
