use Rattle.std.proofs.Common.{◌-◌, arith}
use Rattle.event_queue.proofs.Halves.{seen_place, seen_get, number_within}
use Rattle.event_queue.proofs.queue.Queue.get.Goals as goal

pub overflow_cast-offset : goal.overflow_cast-offset
overflow_cast-offset c =
    let q = c.self.inside in
    let place = seen_place q.first q.count q.low q.high c.args.self.now c.args.place c.self.view_is c.requires in
    omega arith

pub standing-requires-clause-low_within : goal.standing-requires-clause-low_within
standing-requires-clause-low_within c =
    let q = c.self.inside in
    let place = seen_place q.first q.count q.low q.high c.args.self.now c.args.place c.self.view_is c.requires in
    omega (arith, number_within q.count (c.args.place.0 - q.first) place.1, c.self.invariant.low_long)

pub standing-requires-clause-high_within : goal.standing-requires-clause-high_within
standing-requires-clause-high_within c =
    let q = c.self.inside in
    let place = seen_place q.first q.count q.low q.high c.args.self.now c.args.place c.self.view_is c.requires in
    omega (arith, number_within q.count (c.args.place.0 - q.first) place.1, c.self.invariant.high_long)

pub returns-clause-value : goal.returns-clause-value
returns-clause-value c =
    let q = c.self.inside in
    seen_get q.first q.count q.low q.high c.args.self.now c.args.place c.standing.result c.event_if.result c.self.view_is c.requires c.standing.ensures c.event_if.ensures
