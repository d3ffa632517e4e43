use Rattle.event_queue.proofs.Leasts.{fits, least_is, earliest_is}
use Rattle.event_queue.proofs.queue.Queue.least.Goals as goal

pub event_if-requires : goal.event_if-requires
event_if-requires c =
    let q = c.self.inside in
    let lesser = c.lesser-least.ensures in
    fits q.first q.count q.low q.high c.self.invariant c.winner.result c.winner-2.result c.lesser-least.result c.winner.ensures c.winner-2.ensures lesser.one lesser.not_self lesser.not_other

pub returns-clause-least : goal.returns-clause-least
returns-clause-least c =
    let q = c.self.inside in
    let lesser = c.lesser-least.ensures in
    least_is q.first q.count q.low q.high c.self.invariant c.winner.result c.winner-2.result c.lesser-least.result c.winner.ensures c.winner-2.ensures lesser.one lesser.not_self lesser.not_other
    c.event_if.result c.args.self.now c.event_if.ensures c.self.view_is

pub returns-clause-earliest : goal.returns-clause-earliest
returns-clause-earliest c =
    let q = c.self.inside in
    let lesser = c.lesser-least.ensures in
    earliest_is q.first q.count q.low q.high c.self.invariant c.winner.result c.winner-2.result c.lesser-least.result c.winner.ensures c.winner-2.ensures lesser.one lesser.not_self lesser.not_other
    c.event_if.result c.args.self.now c.event_if.ensures c.self.view_is
