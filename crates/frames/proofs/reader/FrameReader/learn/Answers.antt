use Rattle.std.proofs.Common.{◌≡◌, length, sym, ap, ◌∙◌, arith}
use Rattle.frames.specs.States.{after}
use Rattle.frames.proofs.States.{events_of}
use Rattle.frames.proofs.reader.FrameReader.learn.Goals as goal

pub returns-then-self-sample-clause-saw : goal.returns-then-self-sample-clause-saw
returns-then-self-sample-clause-saw c =
    let mine : c.self.inside.last.events ≡ length c.self.inside.seen.log = events_of c.self.inside.reader.place.me.0.client.start c.self.inside.seen.log c.self.inside.last c.self.invariant.last_is in
    let state : c.told.inside.sample ≡ after c.args.self.now.writer.start c.told.inside.seen.log = ap (λ m. m.state) c.told.view_is ∙ (c.requires.1 ∙ ap (λ l. after c.args.self.now.writer.start l) (sym (ap (λ m. m.list) c.told.view_is))) in
    let its : c.told.inside.sample.events ≡ length c.told.inside.seen.log = events_of c.args.self.now.writer.start c.told.inside.seen.log c.told.inside.sample state in
    rw (← c.self.view_is) (c.compare.ensures.this (omega arith))

pub returns-else-self-sample-clause-told : goal.returns-else-self-sample-clause-told
returns-else-self-sample-clause-told c =
    let mine : c.self.inside.last.events ≡ length c.self.inside.seen.log = events_of c.self.inside.reader.place.me.0.client.start c.self.inside.seen.log c.self.inside.last c.self.invariant.last_is in
    let state : c.told.inside.sample ≡ after c.args.self.now.writer.start c.told.inside.seen.log = ap (λ m. m.state) c.told.view_is ∙ (c.requires.1 ∙ ap (λ l. after c.args.self.now.writer.start l) (sym (ap (λ m. m.list) c.told.view_is))) in
    let its : c.told.inside.sample.events ≡ length c.told.inside.seen.log = events_of c.args.self.now.writer.start c.told.inside.seen.log c.told.inside.sample state in
    rw (← c.self.view_is, ← c.told.view_is) (c.compare.ensures.that (omega arith))
