use Rattle.std.proofs.Common.{◌≡◌, ℕ, ◌<◌, ◌-◌, All, List, length, take, sym, ap, ◌∙◌, subst, arith, length-set}
use Rattle.std.proofs.lemmas.List.{take_more_set}
use Rattle.std.proofs.lemmas.List.Elements.{All-set, All-append}
use Rattle.frames.specs.declared.sample.Sample.{Sample}
use Rattle.frames.specs.States.{after}
use Rattle.frames.proofs.LawLemmas.{after-length}
use Rattle.viewer.specs.Samples.{ViewerView, IsStateOf}
use Rattle.viewer.proofs.Sampling.{all_one, all_longer, state_whole, rise_next}
use Rattle.viewer.proofs.viewer.Viewer.sample.Goals as goal

pub invariant_of-self : goal.invariant_of-self
invariant_of-self c =
    let old = c.self.inside in
    let new = c.frame.new.self in
    let into = c.frame.new.into in
    let start : new.writer.start ≡ old.reader.writer.start = ap (λ w. w.start) c.frame.ensures.writer in
    let room : 0 < length old.places.items - old.taken = subst (λ (v : ViewerView). 0 < v.room) (sym c.self.view_is) c.requires in
    let at : old.taken < length old.places.items = omega arith in
    let before : All (IsStateOf new.writer.start new.longest) (take old.taken old.places.items) =
    subst (λ (s : List ℕ). All (IsStateOf s new.longest) (take old.taken old.places.items)) (sym start) (all_longer old.reader.writer.start old.reader.longest new.longest _ c.frame.ensures.grows c.self.invariant.states) in
    record {
      within = omega (arith, length-set old.places.items old.taken into);
      wide = All-set (λ (s : Sample). length s.counts ≡ length new.writer.start) old.places.items old.taken into (ap (λ (s : Sample). length s.counts) c.frame.ensures.state ∙ after-length new.writer.start new.longest)
          (subst (λ (s : List ℕ). All (λ (x : Sample). length x.counts ≡ length s) old.places.items) (sym start) c.self.invariant.wide);
      states = rw (take_more_set old.places.items old.taken into at) (All-append (IsStateOf new.writer.start new.longest) _ _ before (all_one (IsStateOf new.writer.start new.longest) into (state_whole new.writer.start new.longest into c.frame.ensures.state)));
      rise = rw (take_more_set old.places.items old.taken into at) (rise_next new.writer.start old.reader.longest new.longest _ into c.frame.ensures.grows c.frame.ensures.state
          (subst (λ (s : List ℕ). All (IsStateOf s old.reader.longest) (take old.taken old.places.items)) (sym start) c.self.invariant.states) c.self.invariant.rise);
    }

pub returns-clause-rise : goal.returns-clause-rise
returns-clause-rise c =
    let old = c.self.inside in
    let new = c.frame.new.self in
    let into = c.frame.new.into in
    let start : new.writer.start ≡ old.reader.writer.start = ap (λ w. w.start) c.frame.ensures.writer in
    let room : 0 < length old.places.items - old.taken = subst (λ (v : ViewerView). 0 < v.room) (sym c.self.view_is) c.requires in
    let at : old.taken < length old.places.items = omega arith in
    rw (take_more_set old.places.items old.taken into at) (rise_next new.writer.start old.reader.longest new.longest _ into c.frame.ensures.grows c.frame.ensures.state
    (subst (λ (s : List ℕ). All (IsStateOf s old.reader.longest) (take old.taken old.places.items)) (sym start) c.self.invariant.states) c.self.invariant.rise)
