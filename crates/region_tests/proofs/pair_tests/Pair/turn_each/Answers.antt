use Rattle.region_tests.proofs.pair_tests.Pair.turn_each.Goals as goal

pub turn-below-requires-clause-region : goal.turn-below-requires-clause-region
turn-below-requires-clause-region c =
    let w = c.self.invariant in (w.lower_base, c.prepare.ensures.region _ _ 5 w.lower_base w.is_lower)

pub turn-above-requires-clause-region : goal.turn-above-requires-clause-region
turn-above-requires-clause-region c =
    let w = c.self.invariant in (w.upper_base, c.prepare-2.ensures.region _ _ 5 w.upper_base w.is_upper)

pub turn-below-requires-clause-spare : goal.turn-below-requires-clause-spare
turn-below-requires-clause-spare c = c.in_ok-prepare.ensures.ok

pub turn-above-requires-clause-spare : goal.turn-above-requires-clause-spare
turn-above-requires-clause-spare c = c.in_ok-prepare-2.ensures.ok
