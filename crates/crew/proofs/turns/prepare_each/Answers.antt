use Rattle.std.proofs.Common.{arith}
use Rattle.crew.specs.Calls.{HasRoomMade}
use Rattle.crew.proofs.Lists.{HasPrepared, past_more, all_more, rest_stays, room_refl}
use Rattle.crew.proofs.turns.prepare_each.Goals as goal

pub loop-i-preserved : goal.loop-i-preserved
loop-i-preserved c = record {
  past = past_more (HasPrepared c.args.quota) c.args.regions.now c.loop-i.regions c.loop-i.i c.index-regions-i.result c.make_room.new.region (omega (arith, c.loop-i-test.true, c.loop-i.auto.regions)) c.loop-i.auto.regions
      (record { made = c.in_ok-make_room.ensures.made; spare = c.in_ok-make_room.ensures.ok }) c.loop-i.invariant.past c.loop-i.invariant.rest;
  rest = rest_stays c.args.regions.now c.loop-i.regions c.loop-i.i c.make_room.new.region c.loop-i.invariant.rest;
}

pub returns-in_err-make_room-clause-each : goal.returns-in_err-make_room-clause-each
returns-in_err-make_room-clause-each c i d h =
    all_more HasRoomMade c.args.regions.now c.loop-i.regions c.loop-i.i c.index-regions-i.result c.make_room.new.region (omega (arith, c.loop-i-test.true, c.loop-i.auto.regions)) c.loop-i.auto.regions c.make_room.ensures.made
    (λ k e lt. (c.loop-i.invariant.past k e lt).made) c.loop-i.invariant.rest room_refl i d

pub returns-clause-each : goal.returns-clause-each
returns-clause-each c i d h = (c.loop-i.invariant.past i d (omega (arith, h, c.loop-i-test.false, c.loop-i.auto.regions))).made

pub returns-clause-ok : goal.returns-clause-ok
returns-clause-ok c i d h = (c.loop-i.invariant.past i d (omega (arith, h, c.loop-i-test.false, c.loop-i.auto.regions))).spare
