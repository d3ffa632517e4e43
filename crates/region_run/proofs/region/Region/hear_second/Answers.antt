use Rattle.std.proofs.Common.{◌+◌, Option, subst, arith}
use Rattle.border.specs.declared.op.Op.{Op}
use Rattle.region_run.specs.Sides.{Asked}
use Rattle.region_run.proofs.Spares.{less}
use Rattle.region_run.proofs.Hearing.{second_region, second_vain, second_took, second_sender, second_away, second_spare}
use Rattle.region_run.proofs.region.Region.hear_second.Goals as goal

pub take-requires-clause-region : goal.take-requires-clause-region
take-requires-clause-region c =
    let w = c.requires.region in
    (w.0, w.1, second_region c.args.plan.now c.args.cut.now w.0 w.1 c.args.self.now c.ask.new.side c.ask.result w.2 c.ask.ensures)

pub take-requires-clause-sender : goal.take-requires-clause-sender
take-requires-clause-sender c =
    let w = c.requires.region in
    let asked = subst (λ (o : Option Op). Asked c.args.self.now.second o c.ask.new.side) c.in-Some.is c.ask.ensures in
    second_sender c.args.plan.now c.args.cut.now w.0 w.1 c.args.self.now c.ask.new.side c.in-Some.op c.number_or-sender.result w.2 asked c.number_or-sender.ensures

pub take-requires-clause-other : goal.take-requires-clause-other
take-requires-clause-other c =
    let w = c.requires.region in
    let asked = subst (λ (o : Option Op). Asked c.args.self.now.second o c.ask.new.side) c.in-Some.is c.ask.ensures in
    second_away c.args.plan.now c.args.cut.now w.0 w.1 c.args.self.now c.ask.new.side c.in-Some.op c.number_or-sender.result w.2 asked c.number_or-sender.ensures

pub take-requires-clause-spare : goal.take-requires-clause-spare
take-requires-clause-spare c = second_spare c.args.self.now c.ask.new.side c.ask.result 1 c.ask.ensures c.requires.spare

pub returns-in_default-clause-asks : goal.returns-in_default-clause-asks
returns-in_default-clause-asks c until x g = second_vain c.args.plan.now c.args.cut.now until x c.args.self.now c.ask.new.side c.ask.result g c.ask.ensures c.in_default.is

pub returns-in_default-clause-spare : goal.returns-in_default-clause-spare
returns-in_default-clause-spare c m h = second_spare c.args.self.now c.ask.new.side c.ask.result m c.ask.ensures (less (m + 0) m c.args.self.now (omega arith) h)

pub returns-clause-asks : goal.returns-clause-asks
returns-clause-asks c until x g =
    let asked = subst (λ (o : Option Op). Asked c.args.self.now.second o c.ask.new.side) c.in-Some.is c.ask.ensures in
    let region = second_region c.args.plan.now c.args.cut.now until x c.args.self.now c.ask.new.side c.ask.result g c.ask.ensures in
    second_took c.args.plan.now c.args.cut.now until x c.args.self.now c.take.new.self c.ask.new.side c.in-Some.op c.number_or-sender.result g asked c.number_or-sender.ensures (c.take.ensures.step until x region) c.take.ensures.rings

pub returns-clause-spare : goal.returns-clause-spare
returns-clause-spare c m h = c.take.ensures.spare m (second_spare c.args.self.now c.ask.new.side c.ask.result (m + 1) c.ask.ensures h)
