use Rattle.std.proofs.Common.{◌≡◌, ◌<◌, length, sym, ap, ◌∙◌, arith}
use Rattle.frames.specs.declared.pair.Frame.{Frame}
use Rattle.frames.specs.States.{after}
use Rattle.frames.specs.Places.{known_as, IsFrame}
use Rattle.frames.proofs.Prefixes.{prefix_self}
use Rattle.frames.proofs.States.{events_of, length_of}
use Rattle.frames.proofs.Steps.{reads}
use Rattle.frames.proofs.reader.FrameReader.looked.Goals as goal
use Rattle.frames.proofs.reader.FrameReader.looked.Goals.{then-last-frame, else-last-frame}

pub enter_as-requires : goal.enter_as-requires
enter_as-requires c = reads _ _

pub compare-requires : goal.compare-requires
compare-requires c =
    let sees = c.in-Ok.ensures.1.1 c.self.inside.reader.place.me.0.client.start c.self.inside.seen.book c.self.invariant.known in
    ap (λ (f : Frame). f.seen.book) c.get-frame.ensures ∙ sees.1

pub overwrite-requires : goal.overwrite-requires
overwrite-requires c =
    let start = c.self.inside.reader.place.me.0.client.start in
    let sees = c.in-Ok.ensures.1.1 start c.self.inside.seen.book c.self.invariant.known in
    let frame = c.get-frame.result.now in
    let is : IsFrame start frame = rw c.get-frame.ensures sees.0 in
    length_of start c.self.inside.seen.log c.self.inside.last c.self.invariant.last_is ∙ sym (length_of start frame.seen.log frame.sample is)

pub invariant_of-t-10 : goal.invariant_of-t-10
invariant_of-t-10 c =
    let start = c.self.inside.reader.place.me.0.client.start in
    let sees = c.in-Ok.ensures.1.1 start c.self.inside.seen.book c.self.invariant.known in
    rw (c.leave.ensures.1, c.in-Ok.ensures.1.0) (elim c.if-last-frame.branch [
      | then-last-frame w ↦
          let seen = w.seen-is ∙ (w.again-seen.ensures ∙ ap (λ (f : Frame). f.seen) c.get-frame.ensures) in
          record {
            known = c.self.invariant.known ∙ ap (λ b. known_as start b) (sym (ap (λ s. s.book) seen ∙ sees.1));
            last_is = w.last-is ∙ (w.overwrite.ensures ∙ (ap (λ (f : Frame). f.sample) c.get-frame.ensures ∙ (sees.0 ∙ ap (λ l. after start l) (sym (ap (λ s. s.log) seen)))));
          }
      | else-last-frame w ↦ record {
        known = c.self.invariant.known ∙ ap (λ b. known_as start b) (sym (ap (λ s. s.book) w.seen-is));
        last_is = w.last-is ∙ (c.self.invariant.last_is ∙ ap (λ l. after start l) (sym (ap (λ s. s.log) w.seen-is)));
      }
    ])

pub returns-after-last-frame-clause-same : goal.returns-after-last-frame-clause-same
returns-after-last-frame-clause-same c =
    let sees = c.in-Ok.ensures.1.1 c.self.inside.reader.place.me.0.client.start c.self.inside.seen.book c.self.invariant.known in
    let book : c.if-last-frame.seen.book ≡ c.self.inside.seen.book = elim c.if-last-frame.branch [
      | then-last-frame w ↦ ap (λ s. s.book) (w.seen-is ∙ (w.again-seen.ensures ∙ ap (λ (f : Frame). f.seen) c.get-frame.ensures)) ∙ sees.1
      | else-last-frame w ↦ ap (λ s. s.book) w.seen-is
    ] in
    let start = ap (λ v. v.start) (c.leave.ensures.1 ∙ c.in-Ok.ensures.1.0) in
    (λ i. record { book = book i; start = start i }) ∙ ap (λ r. r.writer) c.self.view_is

pub returns-after-last-frame-clause-grows : goal.returns-after-last-frame-clause-grows
returns-after-last-frame-clause-grows c =
    let start = c.self.inside.reader.place.me.0.client.start in
    let sees = c.in-Ok.ensures.1.1 start c.self.inside.seen.book c.self.invariant.known in
    let frame = c.get-frame.result.now in
    let is : IsFrame start frame = rw c.get-frame.ensures sees.0 in
    let mine : c.self.inside.last.events ≡ length c.self.inside.seen.log = events_of start c.self.inside.seen.log c.self.inside.last c.self.invariant.last_is in
    let its : frame.sample.events ≡ length frame.seen.log = events_of start frame.seen.log frame.sample is in
    rw (← c.self.view_is) (elim c.if-last-frame.branch [
      | then-last-frame w ↦ rw (w.seen-is, w.again-seen.ensures) (let less : c.self.inside.last.events < frame.sample.events = w.if-last-frame.true in c.compare.ensures.this (omega arith))
      | else-last-frame w ↦ rw w.seen-is (prefix_self c.self.inside.seen.log)
    ])
