use Rattle.std.proofs.Common.{◌≡◌, ◌^◌, ◌-◌, arith, lit≤, lit<}
use Rattle.fixed_log.specs.Log.{squared}
use Rattle.fixed_log.proofs.Near.{Rounds, rounds, loss, loss-below, fourth-low, whole-from, nearer}
use Rattle.fixed_log.proofs.estimate.Goals as goal

pub loop-init : goal.loop-init
unfolding squared loss
loop-init c = record { near = record { lower = omega arith; upper = omega arith }; low = c.requires; bits_fit = lit< tt }

pub ilog2-whole-requires : goal.ilog2-whole-requires
ilog2-whole-requires c =
    omega (arith, fourth-low c.loop.x _ _ _ _ c.upper_square.ensures c.upper_square-in-loop.ensures c.upper_square-in-loop-2.ensures c.upper_square-power.ensures c.loop.invariant.low)

pub overflow_sub-whole : goal.overflow_sub-whole
overflow_sub-whole c =
    let low = fourth-low c.loop.x _ _ _ _ c.upper_square.ensures c.upper_square-in-loop.ensures c.upper_square-in-loop-2.ensures c.upper_square-power.ensures c.loop.invariant.low in
    whole-from c.upper_square-power.result c.ilog2-whole.result low c.ilog2-whole.ensures.next_power_gt

pub loop-preserved : goal.loop-preserved
loop-preserved c =
    let i = c.loop.invariant in
    let round = rounds c.args.first c.loop.counter c.loop.x c.loop.bits _ _ _ _ c.ilog2-whole.result c.loop-test.true (record { near = i.near; low = i.low; bits_fit = i.bits_fit })
    c.upper_square.ensures c.upper_square-in-loop.ensures c.upper_square-in-loop-2.ensures c.upper_square-power.ensures
    c.ilog2-whole.ensures.power_le c.ilog2-whole.ensures.next_power_gt (omega arith) in
    rw c.from.ensures (record { near = round.near; low = round.low; bits_fit = round.bits_fit })

pub returns-clause-near : goal.returns-clause-near
returns-clause-near c =
    let ended : c.loop.counter ≡ 8 = omega arith in
    let i = c.loop.invariant in
    let after : Rounds c.args.first c.loop.counter c.loop.x c.loop.bits = record { near = i.near; low = i.low; bits_fit = i.bits_fit } in
    let last : Rounds c.args.first 8 c.loop.x c.loop.bits = rw (← ended) after in
    nearer _ _ _ (2 ^ 63 - loss 8) _ last.near (omega (arith, loss-below 8 (lit≤ tt)))
