-- The samples of viewers that are done are states of the surface.
use Rattle.std.proofs.Common.{◌≡◌, ℕ, zero, suc, ◌-◌, ◌*◌, ◌<◌, ◌≤◌, List, [], ◌∷◌, length, map, take, drop, get_or, refl, sym, ap, ◌∙◌, subst, arith, All}
use Rattle.std.proofs.lemmas.List.{length-map, get_or-map, same_lists, take-append-drop}
use Rattle.surf_kinds.specs.declared.rule.Rule.{Rule}
use Rattle.surf_kinds.specs.declared.event.Event.{Event}
use Rattle.surf_kinds.specs.declared.site.SiteState.{SiteState}
use Rattle.lattice.specs.Shape.{Shape}
use Rattle.lattice.specs.Surface.{after}
use Rattle.plan.specs.Network.{Network}
use Rattle.plan.specs.Products.{LeavesWithin}
use Rattle.plan.specs.History.{AreNext}
use Rattle.trace_text.specs.Lines.{counts_of}
use Rattle.frames.specs.declared.sample.Change.{Change}
use Rattle.frames.specs.declared.sample.Sample.{Sample}
use Rattle.frames.specs.States.{after as state_of}
use Rattle.frames.proofs.LawLemmas.{after-events, after-length}
use Rattle.viewer.specs.declared.viewer.Viewer.{Viewer}
use Rattle.viewer.specs.Samples.{IsStateOf, Rise}
use Rattle.watching.specs.Changes.{change_of, changes_of, state_after}
use Rattle.watching.specs.Viewing.{IsDone}
use Rattle.watching.specs.Lines.{IsView, NeverFall}
use Rattle.watching.specs.Views.{AreViews}
use Rattle.watching.proofs.States.{changes_length, next_front, state_is}

take_changes : (l : Shape) (rules : List Rule) (sites : List SiteState) (es : List Event) (k : ℕ) → take k (changes_of l rules sites es) ≡ changes_of l rules sites (take k es)
take_changes l rules sites [] zero = refl
take_changes l rules sites [] (suc k) = refl
take_changes l rules sites (e ∷ es) zero = refl
take_changes l rules sites (e ∷ es) (suc k) = ap (λ cs. change_of l rules sites e ∷ cs) (take_changes l rules (after l rules sites e) es k)

never_fall : (n : ℕ) (ss : List Sample) → Rise n ss → NeverFall n (map (λ (s : Sample). s.events) ss)
never_fall n [] h = tt
never_fall n (s ∷ ss) h = (h.0, never_fall s.events ss h.1)

-- each sample has a count for each species
pub done_wide : (start : List ℕ) (changes : List Change) (frames kinds : ℕ) (v : Viewer) → length start ≡ kinds → IsDone start changes frames v → All (λ (s : Sample). length s.counts ≡ kinds) v.samples
done_wide start changes frames kinds v long done k d h =
    let s = get_or v.samples k d in
    ap (λ (x : Sample). length x.counts) (done.states k d h).1 ∙ (after-length start (take s.events changes) ∙ long)

module _ (n : Network) (until kinds : ℕ) (leaves : All (LeavesWithin kinds) n.rules) (first : List SiteState) (es : List Event) (long : length first ≡ n.lattice.rows * n.lattice.cols) (below : All (λ (s : SiteState). s.species.0 < kinds) first) (next : AreNext n until first es) where
  -- a sample is the state after the events that it counts
  sample_is : (s : Sample) → IsStateOf (counts_of first kinds) (changes_of n.lattice n.rules first es) s → s ≡ state_after n.lattice n.rules kinds first (take s.events es)
  sample_is s is =
      is.1
      ∙ (ap (state_of (counts_of first kinds)) (take_changes n.lattice n.rules first es s.events)
      ∙ state_is n until kinds leaves first (take s.events es) long below (next_front n until first (take s.events es) (drop s.events es) (subst (AreNext n until first) (sym (take-append-drop s.events es)) next)))

  samples_are : (frames : ℕ) (v : Viewer) → IsDone (counts_of first kinds) (changes_of n.lattice n.rules first es) frames v
      → v.samples ≡ map (λ e. state_after n.lattice n.rules kinds first (take e es)) (map (λ (s : Sample). s.events) v.samples)
  samples_are frames v done =
      let numbers = map (λ (s : Sample). s.events) v.samples in
      same_lists v.samples (map (λ e. state_after n.lattice n.rules kinds first (take e es)) numbers)
      (sym (length-map numbers (λ e. state_after n.lattice n.rules kinds first (take e es)) ∙ length-map v.samples (λ (s : Sample). s.events)))
      (λ k d h.
      let inside : k < length numbers = omega (arith, h, length-map v.samples (λ (s : Sample). s.events)) in
      sample_is (get_or v.samples k d) (done.states k d h)
      ∙ (ap (λ e. state_after n.lattice n.rules kinds first (take e es)) (sym (get_or-map (λ (s : Sample). s.events) v.samples k d 0 h))
      ∙ sym (get_or-map (λ e. state_after n.lattice n.rules kinds first (take e es)) numbers k 0 d inside)))

  is_view : (frames : ℕ) (v : Viewer) → 1 ≤ frames → IsDone (counts_of first kinds) (changes_of n.lattice n.rules first es) frames v → IsView frames (length es) (map (λ (s : Sample). s.events) v.samples)
  is_view frames v some done =
      let all : length (changes_of n.lattice n.rules first es) ≡ length es = changes_length n.lattice n.rules first es in
      let none : Sample = record { events = 0; time = 0; counts = [] } in
      record {
        number = length-map v.samples (λ (s : Sample). s.events) ∙ done.number;
        most = λ k d h.
            let inside : k < length v.samples = omega (arith, h, length-map v.samples (λ (s : Sample). s.events)) in
            subst (λ e. e ≤ length es) (sym (get_or-map (λ (s : Sample). s.events) v.samples k none d inside)) (omega (arith, (done.states k none inside).0, all));
        rise = never_fall 0 v.samples done.rises;
        last = get_or-map (λ (s : Sample). s.events) v.samples (frames - 1) none 0 (omega (arith, done.number, some))
            ∙ (ap (λ (s : Sample). s.events) (done.last none) ∙ (after-events (counts_of first kinds) (changes_of n.lattice n.rules first es) ∙ all));
      }

  pub are_views : (frames : ℕ) (viewers : List Viewer) → 1 ≤ frames → All (IsDone (counts_of first kinds) (changes_of n.lattice n.rules first es) frames) viewers → AreViews n kinds (length viewers) frames first es (map (λ (v : Viewer). v.samples) viewers)
  are_views frames viewers some done =
      record {
        numbers = map (λ (v : Viewer). map (λ (s : Sample). s.events) v.samples) viewers;
        count = length-map viewers (λ (v : Viewer). map (λ (s : Sample). s.events) v.samples);
        each = each viewers done;
        states = states viewers done;
      }
    where
      each : (vs : List Viewer) → All (IsDone (counts_of first kinds) (changes_of n.lattice n.rules first es) frames) vs → All (IsView frames (length es)) (map (λ (v : Viewer). map (λ (s : Sample). s.events) v.samples) vs)
      each [] h k d inside = absurd (omega (arith, inside))
      each (v ∷ vs) h zero d inside = is_view frames v some (h zero v (omega arith))
      each (v ∷ vs) h (suc k) d inside = each vs (λ i e lt. h (suc i) e (omega (arith, lt))) k d (omega (arith, inside))

      states : (vs : List Viewer) → All (IsDone (counts_of first kinds) (changes_of n.lattice n.rules first es) frames) vs
          → map (λ (v : Viewer). v.samples) vs ≡ map (λ ks. map (λ e. state_after n.lattice n.rules kinds first (take e es)) ks) (map (λ (v : Viewer). map (λ (s : Sample). s.events) v.samples) vs)
      states [] h = refl
      states (v ∷ vs) h = λ i. samples_are frames v (h zero v (omega arith)) i ∷ states vs (λ k e lt. h (suc k) e (omega (arith, lt))) i
