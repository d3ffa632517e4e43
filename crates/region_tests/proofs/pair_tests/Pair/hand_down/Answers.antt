use Rattle.std.proofs.Common.{arith}
use Rattle.region_run.proofs.Spares.{less}
use Rattle.region_tests.proofs.Pairs.{lower_roomier, apart, paired, looked, delivered}
use Rattle.region_tests.proofs.pair_tests.Pair.hand_down.Goals as goal

pub invariant_of-self : goal.invariant_of-self
invariant_of-self c = lower_roomier _ _ _ _ _ c.self.invariant c.prepare.ensures.roomier c.prepare.ensures.region

pub look-requires-clause-apart : goal.look-requires-clause-apart
look-requires-clause-apart c = apart _ _ _ _ (lower_roomier _ _ _ _ _ c.self.invariant c.prepare.ensures.roomier c.prepare.ensures.region)

pub look-requires-clause-rings : goal.look-requires-clause-rings
look-requires-clause-rings c = paired _ _ _ _ (lower_roomier _ _ _ _ _ c.self.invariant c.prepare.ensures.roomier c.prepare.ensures.region)

pub deliver-requires-clause-region : goal.deliver-requires-clause-region
deliver-requires-clause-region c =
    let seen = looked _ _ _ _ _ _ (lower_roomier _ _ _ _ _ c.self.invariant c.prepare.ensures.roomier c.prepare.ensures.region) c.look.ensures.one c.look.ensures.other c.look.ensures.ties in
    (5, seen.lower_base, seen.is_lower)

pub deliver-requires-clause-apart : goal.deliver-requires-clause-apart
deliver-requires-clause-apart c = apart _ _ _ _ (looked _ _ _ _ _ _ (lower_roomier _ _ _ _ _ c.self.invariant c.prepare.ensures.roomier c.prepare.ensures.region) c.look.ensures.one c.look.ensures.other c.look.ensures.ties)

pub deliver-requires-clause-sender : goal.deliver-requires-clause-sender
deliver-requires-clause-sender c =
    let seen = looked _ _ _ _ _ _ (lower_roomier _ _ _ _ _ c.self.invariant c.prepare.ensures.roomier c.prepare.ensures.region) c.look.ensures.one c.look.ensures.other c.look.ensures.ties in
    seen.is_upper.inside

pub deliver-requires-clause-spare : goal.deliver-requires-clause-spare
deliver-requires-clause-spare c = c.look.ensures.other_spare 1 (less 2 1 _ (omega (arith)) c.in_ok-prepare.ensures.ok)

pub invariant_of-self-2 : goal.invariant_of-self-2
invariant_of-self-2 c =
    delivered _ _ _ _ _ _ c.deliver.result
    (looked _ _ _ _ _ _ (lower_roomier _ _ _ _ _ c.self.invariant c.prepare.ensures.roomier c.prepare.ensures.region) c.look.ensures.one c.look.ensures.other c.look.ensures.ties)
    c.deliver.ensures.none c.deliver.ensures.one
