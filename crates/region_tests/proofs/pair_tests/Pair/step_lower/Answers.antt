use Rattle.region_tests.proofs.Pairs.{lower_roomier, lower_stepped}
use Rattle.region_tests.proofs.pair_tests.Pair.step_lower.Goals as goal

pub invariant_of-self : goal.invariant_of-self
invariant_of-self c = lower_roomier _ _ _ _ _ c.self.invariant c.prepare.ensures.roomier c.prepare.ensures.region

pub step_one-requires-clause-region : goal.step_one-requires-clause-region
step_one-requires-clause-region c =
    let w = c.self.invariant in (w.lower_base, c.prepare.ensures.region _ _ 5 w.lower_base w.is_lower)

pub invariant_of-self-2 : goal.invariant_of-self-2
invariant_of-self-2 c = lower_stepped _ _ _ _ _ c.step_one.result (lower_roomier _ _ _ _ _ c.self.invariant c.prepare.ensures.roomier c.prepare.ensures.region) c.step_one.ensures.steps c.step_one.ensures.rings
