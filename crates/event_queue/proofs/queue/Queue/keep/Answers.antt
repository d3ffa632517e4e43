use Rattle.std.proofs.Common.{◌-◌, ◌∙◌, inr, arith, ap, refl, Some}
use Rattle.surf_kinds.specs.declared.event.Event.{Event}
use Rattle.event_queue.specs.declared.entry.Entry.{Entry}
use Rattle.event_queue.proofs.Halves.{seen_place, seen_set, sound_set, event_from, event_if_some, number_within}
use Rattle.event_queue.proofs.queue.Queue.keep.Goals as goal

pub overflow_cast-offset : goal.overflow_cast-offset
overflow_cast-offset c =
    let q = c.self.inside in
    let place = seen_place q.first q.count q.low q.high c.args.self.now c.args.event.place c.self.view_is c.requires in
    omega arith

pub put-requires-clause-low_within : goal.put-requires-clause-low_within
put-requires-clause-low_within c =
    let q = c.self.inside in
    let place = seen_place q.first q.count q.low q.high c.args.self.now c.args.event.place c.self.view_is c.requires in
    omega (arith, number_within q.count (c.args.event.place.0 - q.first) place.1, c.self.invariant.low_long)

pub put-requires-clause-high_within : goal.put-requires-clause-high_within
put-requires-clause-high_within c =
    let q = c.self.inside in
    let place = seen_place q.first q.count q.low q.high c.args.self.now c.args.event.place c.self.view_is c.requires in
    omega (arith, number_within q.count (c.args.event.place.0 - q.first) place.1, c.self.invariant.high_long)

pub invariant_of-self : goal.invariant_of-self
invariant_of-self c =
    let q = c.self.inside in
    let e = c.args.event in
    let entry : Entry = record { time = e.time; offset = e.place.0 - q.first; channel = e.channel } in
    let place = seen_place q.first q.count q.low q.high c.args.self.now c.args.event.place c.self.view_is c.requires in
    sound_set q.first q.count q.low q.high c.put.new.low c.put.new.high (e.place.0 - q.first) entry c.self.invariant place.1 (inr (refl, place.1, omega arith)) c.put.ensures.low c.put.ensures.high

pub returns : goal.returns
returns c =
    let q = c.self.inside in
    let e = c.args.event in
    let entry : Entry = record { time = e.time; offset = e.place.0 - q.first; channel = e.channel } in
    let place = seen_place q.first q.count q.low q.high c.args.self.now c.args.event.place c.self.view_is c.requires in
    seen_set q.first q.count q.low q.high c.put.new.low c.put.new.high (e.place.0 - q.first) (e.place.0 - c.args.self.now.first) entry (Some e) c.args.self.now c.self.invariant place.1 c.self.view_is c.put.ensures.low c.put.ensures.high
    (event_if_some q.first entry (omega (arith, place, c.self.invariant.few)) ∙ ap (λ (v : Event). Some v) (event_from q.first e place.0)) place.2
