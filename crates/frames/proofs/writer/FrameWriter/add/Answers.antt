use Rattle.std.proofs.Common.{◌≡◌, ◌<◌, ◌-◌, ◌^◌, length, refl, sym, ◌∙◌, subst}
use Rattle.frames.specs.States.{after, MayFollow}
use Rattle.frames.specs.Ends.{WriterView}
use Rattle.frames.proofs.Writing.{adding}
use Rattle.frames.proofs.writer.FrameWriter.add.Goals as goal

pub invariant_of-self-in-Ok : goal.invariant_of-self-in-Ok
invariant_of-self-in-Ok c =
    let added : c.accept.new.self.added ≡ c.in-Some.seen = c.accept.ensures ∙ c.in-Some.ensures.end in
    rw (c.in-Ok.ensures.desk, c.in-Ok.ensures.pending, added)
    (adding c.self.inside.writer.desk.place.me.0.client _ _ (record { sample = _; seen = c.self.inside.log.added }) (record { change = c.args.change; seen = c.in-Some.seen })
    c.self.invariant refl c.in-Some.ensures.longer c.in-Some.ensures.book
    (subst (λ (w : WriterView). length w.added < 2 ^ 64 - 1) (sym c.self.view_is) c.requires.room)
    (subst (λ (w : WriterView). MayFollow (after w.name.start w.added) c.args.change) (sym c.self.view_is) c.requires.follows))
