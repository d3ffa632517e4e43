use Rattle.std.proofs.Common.{◌+◌, length, ap, ◌∙◌, arith, Some, None}
use Rattle.region_run.specs.declared.board.Board.{Board}
use Rattle.region_run.specs.declared.totals.Totals.{Totals}
use Rattle.region_run.specs.Counts.{with_work}
use Rattle.region_run.proofs.Delivering.{sender_spare, receiver_spare, receiver_totals, receiver_board, receiver_region, not_delivered, delivered}
use Rattle.region_run.proofs.Spares.{less}
use Rattle.region_run.proofs.deliveries.deliver.Goals as goal

-- there is no message

pub returns-in_default-clause-none : goal.returns-in_default-clause-none
returns-in_default-clause-none c _ = not_delivered c.args.from.now c.args.to.now c.next_op.new.from c.next_op.new.to c.in_default.ensures

pub returns-in_default-clause-sender_spare : goal.returns-in_default-clause-sender_spare
returns-in_default-clause-sender_spare c = sender_spare c.args.from.now c.args.to.now c.next_op.new.from c.next_op.new.to None c.in_default.ensures

pub returns-in_default-clause-spare : goal.returns-in_default-clause-spare
returns-in_default-clause-spare c m h =
    receiver_spare c.args.from.now c.args.to.now c.next_op.new.from c.next_op.new.to None c.in_default.ensures m (less (m + 1) m c.args.to.now (omega arith) h)

-- there is one

pub absorb-requires-clause-region : goal.absorb-requires-clause-region
absorb-requires-clause-region c =
    let w = c.requires.region in
    (w.0, w.1, receiver_region c.args.from.now c.args.to.now c.next_op.new.from c.next_op.new.to (Some c.in-Some.op) c.in-Some.ensures c.args.plan.now c.args.cut.now w.0 w.1 w.2)

pub absorb-requires-clause-spare : goal.absorb-requires-clause-spare
absorb-requires-clause-spare c = receiver_spare c.args.from.now c.args.to.now c.next_op.new.from c.next_op.new.to (Some c.in-Some.op) c.in-Some.ensures 1 c.requires.spare

pub returns-clause-one : goal.returns-clause-one
returns-clause-one c _ until x g =
    delivered c.args.plan.now c.args.cut.now until x c.args.from.now c.args.to.now c.next_op.new.from c.next_op.new.to c.absorb.new.self c.in-Some.op c.in-Some.ensures c.absorb.ensures.rings
    (c.absorb.ensures.step until x (receiver_region c.args.from.now c.args.to.now c.next_op.new.from c.next_op.new.to (Some c.in-Some.op) c.in-Some.ensures c.args.plan.now c.args.cut.now until x g))

pub returns-clause-totals : goal.returns-clause-totals
returns-clause-totals c _ = (
  c.absorb.result,
  c.absorb.ensures.totals ∙ ap (λ (t : Totals). with_work t 0 c.absorb.result) (receiver_totals c.args.from.now c.args.to.now c.next_op.new.from c.next_op.new.to (Some c.in-Some.op) c.in-Some.ensures),
  c.absorb.ensures.cut ∙ ap (λ (b : Board). length b.timeline.entries) (receiver_board c.args.from.now c.args.to.now c.next_op.new.from c.next_op.new.to (Some c.in-Some.op) c.in-Some.ensures),
)

pub returns-clause-sender_spare : goal.returns-clause-sender_spare
returns-clause-sender_spare c = sender_spare c.args.from.now c.args.to.now c.next_op.new.from c.next_op.new.to (Some c.in-Some.op) c.in-Some.ensures

pub returns-clause-spare : goal.returns-clause-spare
returns-clause-spare c m h =
    c.absorb.ensures.spare m (receiver_spare c.args.from.now c.args.to.now c.next_op.new.from c.next_op.new.to (Some c.in-Some.op) c.in-Some.ensures (m + 1) h)
