use Rattle.std.proofs.Common.{◌∙◌, arith}
use Rattle.std.proofs.lemmas.Grind.{common_steps}
use Rattle.warp_core.proofs.Machine.Vectors.{items_kept, room_more}
use Rattle.warp_core.proofs.outboxes.make_room.Goals as goal

pub returns-in_err-reserve-clause-same : goal.returns-in_err-reserve-clause-same
returns-in_err-reserve-clause-same c l =
    items_kept c.loop-i.outboxes.items c.loop-i.i c.index_mut.result.now c.reserve.new.self (omega arith) c.index_mut.ensures.value c.reserve.ensures.items l
    ∙ c.loop-i.invariant.same l

pub loop-i-preserved : goal.loop-i-preserved
loop-i-preserved c = record {
  long = grind (arith, common_steps);
  same = λ l. items_kept c.loop-i.outboxes.items c.loop-i.i c.index_mut.result.now c.reserve.new.self (omega arith) c.index_mut.ensures.value c.reserve.ensures.items l ∙ c.loop-i.invariant.same l;
  room = room_more c.loop-i.outboxes.items c.loop-i.i c.reserve.new.self (omega arith) c.loop-i.invariant.room (omega (arith, c.in_ok-reserve.ensures.ok));
}
