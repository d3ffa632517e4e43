use Rattle.std.proofs.Common.{◌-◌, arith, refl, inl, None}
use Rattle.event_queue.specs.Tournament.{nothing}
use Rattle.event_queue.proofs.Halves.{seen_place, seen_set, sound_set, number_within}
use Rattle.event_queue.proofs.queue.Queue.drop_at.Goals as goal

pub overflow_cast-offset : goal.overflow_cast-offset
overflow_cast-offset c =
    let q = c.self.inside in
    let place = seen_place q.first q.count q.low q.high c.args.self.now c.args.place c.self.view_is c.requires in
    omega arith

pub put-requires-clause-low_within : goal.put-requires-clause-low_within
put-requires-clause-low_within c =
    let q = c.self.inside in
    let place = seen_place q.first q.count q.low q.high c.args.self.now c.args.place c.self.view_is c.requires in
    omega (arith, number_within q.count (c.args.place.0 - q.first) place.1, c.self.invariant.low_long)

pub put-requires-clause-high_within : goal.put-requires-clause-high_within
put-requires-clause-high_within c =
    let q = c.self.inside in
    let place = seen_place q.first q.count q.low q.high c.args.self.now c.args.place c.self.view_is c.requires in
    omega (arith, number_within q.count (c.args.place.0 - q.first) place.1, c.self.invariant.high_long)

pub returns : goal.returns
returns c =
    let q = c.self.inside in
    let place = seen_place q.first q.count q.low q.high c.args.self.now c.args.place c.self.view_is c.requires in
    seen_set q.first q.count q.low q.high c.put.new.low c.put.new.high (c.args.place.0 - q.first) (c.args.place.0 - c.args.self.now.first) nothing None c.args.self.now c.self.invariant place.1 c.self.view_is c.put.ensures.low c.put.ensures.high refl place.2

pub invariant_of-self : goal.invariant_of-self
invariant_of-self c =
    let q = c.self.inside in
    let place = seen_place q.first q.count q.low q.high c.args.self.now c.args.place c.self.view_is c.requires in
    sound_set q.first q.count q.low q.high c.put.new.low c.put.new.high (c.args.place.0 - q.first) nothing c.self.invariant place.1 (inl refl) c.put.ensures.low c.put.ensures.high
