use Rattle.std.proofs.Common.{sym, ap, ◌∙◌, length}
use Rattle.frames.proofs.States.{length_of}
use Rattle.frames.proofs.reader.FrameReader.frame.Goals as goal

pub overwrite-requires : goal.overwrite-requires
overwrite-requires c =
    let last = length_of c.self.inside.reader.place.me.0.client.start c.self.inside.seen.log c.self.inside.last c.self.invariant.last_is in
    let start = ap (λ r. r.writer.start) c.self.view_is ∙ ap (λ w. w.start) c.look.ensures.same in
    c.requires ∙ (ap length (sym start) ∙ sym last)

pub returns-clause-kinds : goal.returns-clause-kinds
returns-clause-kinds c =
    let last = length_of c.self.inside.reader.place.me.0.client.start c.self.inside.seen.log c.self.inside.last c.self.invariant.last_is in
    let start = ap (λ r. r.writer.start) c.self.view_is ∙ ap (λ w. w.start) c.look.ensures.same in
    ap (λ s. length s.counts) c.overwrite.ensures ∙ (last ∙ (ap length start ∙ sym c.requires))
