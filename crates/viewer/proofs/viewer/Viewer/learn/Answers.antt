use Rattle.std.proofs.Common.{◌≡◌, ℕ, All, List, map, length, take, sym, ap, ◌∙◌, subst, arith}
use Rattle.std.proofs.lemmas.List.{take-map, length-map}
use Rattle.frames.specs.declared.sample.Sample.{Sample}
use Rattle.frames.specs.States.{after}
use Rattle.frames.proofs.LawLemmas.{after-length}
use Rattle.viewer.specs.Samples.{ViewerView, IsStateOf, Rise, clipped}
use Rattle.viewer.proofs.Sampling.{all_clipped, all_longer, all_wide, rise_all}
use Rattle.viewer.proofs.viewer.Viewer.learn.Goals as goal

pub clip_all-requires : goal.clip_all-requires
clip_all-requires c =
    let start : c.self.inside.reader.writer.start ≡ c.args.self.now.writer.start = ap (λ (v : ViewerView). v.writer.start) c.self.view_is in
    let told : length c.sample.result.now.counts ≡ length c.args.self.now.writer.start = ap (λ (s : Sample). length s.counts) (c.sample.ensures ∙ c.requires.1) ∙ after-length c.args.self.now.writer.start c.args.told.list in
    λ k d h. c.self.invariant.wide k d h ∙ (ap length start ∙ sym told)

pub returns-clause-samples : goal.returns-clause-samples
returns-clause-samples c =
    let old = c.self.inside in
    ap (λ ss. take old.taken ss) c.clip_all.ensures
    ∙ (take-map (clipped c.sample.result.now) old.taken old.places.items
    ∙ (ap (λ (t : Sample). map (clipped t) (take old.taken old.places.items)) c.sample.ensures
    ∙ ap (λ (v : ViewerView). map (clipped c.args.told.state) v.samples) c.self.view_is))

pub returns-clause-states : goal.returns-clause-states
returns-clause-states c =
    let old = c.self.inside in
    let new = c.learn.new.self in
    let t = c.sample.result.now in
    let told : t ≡ after old.reader.writer.start c.args.told.list = c.sample.ensures ∙ (c.requires.1 ∙ ap (λ (v : ViewerView). after v.writer.start c.args.told.list) (sym c.self.view_is)) in
    let ss : List Sample = take old.taken c.clip_all.new.samples.items in
    let is : ss ≡ map (clipped t) (take old.taken old.places.items) = ap (λ xs. take old.taken xs) c.clip_all.ensures ∙ take-map (clipped t) old.taken old.places.items in
    let all : All (IsStateOf old.reader.writer.start c.args.told.list) ss =
    subst (λ (xs : List Sample). All (IsStateOf old.reader.writer.start c.args.told.list) xs) (sym is)
    (all_clipped old.reader.writer.start old.reader.longest c.args.told.list new.longest t _ told c.learn.ensures.saw c.learn.ensures.told c.self.invariant.states) in
    subst (λ (s : List ℕ). All (IsStateOf s c.args.told.list) ss) (sym (ap (λ w. w.start) c.learn.ensures.writer)) all

pub returns-clause-rise : goal.returns-clause-rise
returns-clause-rise c =
    let old = c.self.inside in
    let t = c.sample.result.now in
    let is = ap (λ xs. take old.taken xs) c.clip_all.ensures ∙ take-map (clipped t) old.taken old.places.items in
    subst (λ (xs : List Sample). Rise 0 xs) (sym is) (rise_all t _ c.self.invariant.rise)

pub invariant_of-self : goal.invariant_of-self
invariant_of-self c =
    let old = c.self.inside in
    let new = c.learn.new.self in
    let t = c.sample.result.now in
    let told : t ≡ after old.reader.writer.start c.args.told.list = c.sample.ensures ∙ (c.requires.1 ∙ ap (λ (v : ViewerView). after v.writer.start c.args.told.list) (sym c.self.view_is)) in
    let ss : List Sample = take old.taken c.clip_all.new.samples.items in
    let is : ss ≡ map (clipped t) (take old.taken old.places.items) = ap (λ xs. take old.taken xs) c.clip_all.ensures ∙ take-map (clipped t) old.taken old.places.items in
    let all : All (IsStateOf old.reader.writer.start c.args.told.list) ss =
    subst (λ (xs : List Sample). All (IsStateOf old.reader.writer.start c.args.told.list) xs) (sym is)
    (all_clipped old.reader.writer.start old.reader.longest c.args.told.list new.longest t _ told c.learn.ensures.saw c.learn.ensures.told c.self.invariant.states) in
    let start : new.writer.start ≡ old.reader.writer.start = ap (λ w. w.start) c.learn.ensures.writer in
    let len : length c.clip_all.new.samples.items ≡ length old.places.items = ap length c.clip_all.ensures ∙ length-map old.places.items (clipped t) in
    let wide : length t.counts ≡ length old.reader.writer.start = ap (λ (s : Sample). length s.counts) told ∙ after-length old.reader.writer.start c.args.told.list in
    let before : All (λ (s : Sample). length s.counts ≡ length t.counts) old.places.items = λ k d h. c.self.invariant.wide k d h ∙ sym wide in
    record {
      within = omega (arith, c.self.invariant.within);
      wide = subst (λ (xs : List Sample). All (λ (s : Sample). length s.counts ≡ length new.writer.start) xs) (sym c.clip_all.ensures) (λ k d h. all_wide t old.places.items before k d h ∙ (wide ∙ ap length (sym start)));
      states = subst (λ (s : List ℕ). All (IsStateOf s new.longest) ss) (sym start) (all_longer old.reader.writer.start c.args.told.list new.longest ss c.learn.ensures.told all);
      rise = subst (λ (xs : List Sample). Rise 0 xs) (sym is) (rise_all t _ c.self.invariant.rise);
    }
