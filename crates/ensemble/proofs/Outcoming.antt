-- The outcome of a seed.
use Rattle.std.proofs.Common.{◌≡◌, ℕ, ◌<◌, ◌≤◌, Bool, true, false, List, [], ◌∷◌, length, take, drop, Option, Some, None, refl, sym, ap, ◌∙◌, subst, arith, take_all, if◌then◌else◌, inl, inr}
use Rattle.std.specs.Prelude.{All, MatchOption, is_none, nat_le, count_by, ◌==◌, Result, Ok, Err, IfOk}
use Rattle.std.specs.List.{range_with_len}
use Rattle.std.proofs.lemmas.List.{length-drop, length-map, length-take-le}
use Rattle.std.proofs.lemmas.List.Elements.{All-map}
use Rattle.std.proofs.lemmas.List.FromFn.{length-map-range_with_len}
use Rattle.std.proofs.lemmas.List.Sums.{count_by-le-length}
use Rattle.std.proofs.lemmas.Bool.{cases_lt}
use Rattle.std.proofs.lemmas.Bool.Decides.{nat_tests}
use Rattle.surf_kinds.specs.declared.event.Event.{Event}
use Rattle.surf_kinds.specs.declared.rule.Rule.{Rule}
use Rattle.surf_kinds.specs.declared.site.SiteState.{SiteState}
use Rattle.lattice.specs.Shape.{Shape}
use Rattle.lattice.specs.Surface.{fresh, first_surface, after, after_all, end_time}
use Rattle.lattice.proofs.LawLemmas.{after_length}
use Rattle.one_engine.specs.State.{State, fired, fired_all, history_from}
use Rattle.one_engine.proofs.LawLemmas.{fired_sites}
use Rattle.trace_text.specs.Lines.{count_of, counts_of}
use Rattle.manifest_read.specs.declared.manifest.Manifest.{Manifest}
use Rattle.manifest_read.specs.Sound.{IsSound}
use Rattle.ensemble.specs.declared.outcome.EnsembleSettings.{EnsembleSettings}
use Rattle.ensemble.specs.declared.outcome.Outcome.{Outcome}
use Rattle.ensemble.specs.Outcomes.{history_with, start_of, outcome_of, outcome_within, nth_seed, nth_outcome, outcomes, IsWithin}
use Rattle.ensemble.specs.Running.{HasFired}

-- events leave the number of species
fired_species : (s : State) (es : List Event) → (fired_all s es).surface.species_count ≡ s.surface.species_count
fired_species s [] = refl
fired_species s (e ∷ es) = fired_species (fired s e) es

-- the two cases of the limit
pub within_limit : (limit : ℕ) (m : Manifest) (seed : ℕ) (es : List Event) → length es ≤ limit → outcome_within limit m seed es ≡ outcome_of m seed true es
within_limit limit m seed es le =
    let t : nat_le (length es) limit ≡ true = grind (arith, nat_tests) in
    ap (λ (b : Bool). if b then outcome_of m seed true es else outcome_of m seed false (take limit es)) t

pub past_limit : (limit : ℕ) (m : Manifest) (seed : ℕ) (es : List Event) → limit < length es → outcome_within limit m seed es ≡ outcome_of m seed false (take limit es)
past_limit limit m seed es lt =
    let t : nat_le (length es) limit ≡ false = grind (arith, nat_tests) in
    ap (λ (b : Bool). if b then outcome_of m seed true es else outcome_of m seed false (take limit es)) t

-- the outcome of the first events of a history, by what the engine says next
decided : (limit : ℕ) (m : Manifest) (seed : ℕ) (h rest : List Event) (next : Option Event) → rest ≡ drop limit h → MatchOption next (rest ≡ []) (λ e. (es : List Event) × (rest ≡ e ∷ es)) → outcome_of m seed (is_none next) (take limit h) ≡ outcome_within limit m seed h
decided limit m seed h rest None is none =
    let long = ap length (sym is ∙ none) in
    let n = length-drop limit h in
    let short : length h ≤ limit = omega (arith, long, n) in
    ap (outcome_of m seed true) (take_all limit h short) ∙ sym (within_limit limit m seed h short)
decided limit m seed h rest (Some e) is some =
    let long = ap length (sym is ∙ some.1) in
    let n = length-drop limit h in
    sym (past_limit limit m seed h (omega (arith, long, n)))

-- what a run of a seed leaves is its outcome
pub outcome_is : (until limit : ℕ) (m : Manifest) (seed : ℕ) (old new last : State) (events time : ℕ) (counts : List ℕ) (next : Option Event) → old ≡ start_of m seed → HasFired until limit old new events time
    → counts ≡ counts_of new.surface.sites new.surface.species_count → MatchOption next (history_from until new ≡ []) (λ e. history_from until new ≡ e ∷ history_from until last)
    → (let o : Outcome = record { seed = seed; events = events; last = time; ended = is_none next; counts = counts } in o ≡ outcome_within limit m seed (history_with m seed until))
outcome_is until limit m seed old new last events time counts next is fired counted ends = go old is fired
  where
    h : List Event
    h = history_with m seed until

    made : (n k : ℕ) (cs : List ℕ) (b : Bool) → n ≡ length (take limit h) → k ≡ end_time (take limit h) → cs ≡ counts_of (after_all m.lattice m.rules (first_surface m.cells) (take limit h)) (length m.names)
        → (let o : Outcome = record { seed = seed; events = n; last = k; ended = b; counts = cs } in o ≡ outcome_of m seed b (take limit h))
    made n k cs b en ek ec =
        ap (λ x. let o : Outcome = record { seed = seed; events = x; last = k; ended = b; counts = cs } in o) en
        ∙ (ap (λ x. let o : Outcome = record { seed = seed; events = length (take limit h); last = x; ended = b; counts = cs } in o) ek
        ∙ ap (λ x. let o : Outcome = record { seed = seed; events = length (take limit h); last = end_time (take limit h); ended = b; counts = x } in o) ec)

    some_next : (next : Option Event) → MatchOption next (history_from until new ≡ []) (λ e. history_from until new ≡ e ∷ history_from until last) → MatchOption next (history_from until new ≡ []) (λ e. (es : List Event) × (history_from until new ≡ e ∷ es))
    some_next None x = x
    some_next (Some e) x = (history_from until last, x)

    go : (s : State) → s ≡ start_of m seed → HasFired until limit s new events time
        → (let o : Outcome = record { seed = seed; events = events; last = time; ended = is_none next; counts = counts } in o ≡ outcome_within limit m seed h)
    go s e f =
        let g : HasFired until limit (start_of m seed) new events time = subst (λ (x : State). HasFired until limit x new events time) e f in
        let sites : new.surface.sites ≡ after_all m.lattice m.rules (first_surface m.cells) (take limit h) = ap (λ (x : State). x.surface.sites) g.state ∙ fired_sites (start_of m seed) (take limit h) in
        let species : new.surface.species_count ≡ length m.names = ap (λ (x : State). x.surface.species_count) g.state ∙ fired_species (start_of m seed) (take limit h) in
        made events time counts (is_none next) g.events g.last
        (counted ∙ (ap (λ (x : List SiteState). counts_of x new.surface.species_count) sites ∙ ap (counts_of (after_all m.lattice m.rules (first_surface m.cells) (take limit h))) species))
        ∙ decided limit m seed h (history_from until new) next g.rest (some_next next ends)

-- the counts of a surface are no more than its sites
long_after : (l : Shape) (rules : List Rule) (sites : List SiteState) (es : List Event) → length (after_all l rules sites es) ≡ length sites
long_after l rules sites [] = refl
long_after l rules sites (e ∷ es) = long_after l rules (after l rules sites e) es ∙ after_length l rules sites e

small_counts : (n most : ℕ) (sites : List SiteState) → length sites ≤ most → All (λ k. k ≤ most) (counts_of sites n)
small_counts n most sites le =
    All-map (λ k. k ≤ most) (count_of sites) (range_with_len 0 n)
    (λ k d inside. let c = count_by-le-length (λ (s : SiteState). s.species.0 == Rattle.std.specs.Prelude.slice_index_or (range_with_len 0 n) k d) sites in omega (arith, c, le))

-- each outcome is within bounds
pub outcome_within_bounds : (m : Manifest) (seed : ℕ) (ended : Bool) (es : List Event) → IsSound m → length es ≤ 10000000 → IsWithin (length m.names) (outcome_of m seed ended es)
outcome_within_bounds m seed ended es sound le =
    let sites = after_all m.lattice m.rules (first_surface m.cells) es in
    let long : length sites ≡ length m.cells = long_after m.lattice m.rules (first_surface m.cells) es ∙ length-map m.cells fresh in
    record {
      events = le;
      species = length-map-range_with_len (count_of sites) 0 (length m.names);
      counts = small_counts (length m.names) 1048576 sites (omega (arith, long, sound.cell_count, sound.size.at_most));
    }

pub nth_within : (m : Manifest) (s : EnsembleSettings) (i : ℕ) → IsSound m → s.limit ≤ 10000000 → IsWithin (length m.names) (nth_outcome m s i)
nth_within m s i sound le =
    let seed = nth_seed s i in
    let h = history_with m seed s.until in
    elim (cases_lt s.limit (length h)) [
      | inl past ↦
          let n = length-take-le s.limit h (omega (arith, past)) in
          subst (IsWithin (length m.names)) (sym (past_limit s.limit m seed h past)) (outcome_within_bounds m seed false (take s.limit h) sound (omega (arith, n, le)))
      | inr all ↦
          subst (IsWithin (length m.names)) (sym (within_limit s.limit m seed h (omega (arith, all)))) (outcome_within_bounds m seed true h sound (omega (arith, all, le)))
    ]

pub all_within : (m : Manifest) (s : EnsembleSettings) → IsSound m → s.limit ≤ 10000000 → All (IsWithin (length m.names)) (outcomes m s)
all_within m s sound le = All-map (IsWithin (length m.names)) (nth_outcome m s) (range_with_len 0 s.seeds) (λ k d inside. nth_within m s _ sound le)

pub events_within : (m : Manifest) (s : EnsembleSettings) (i : ℕ) → (nth_outcome m s i).events ≤ s.limit
events_within m s i =
    let seed = nth_seed s i in
    let h = history_with m seed s.until in
    elim (cases_lt s.limit (length h)) [
      | inl past ↦
          let n = length-take-le s.limit h (omega (arith, past)) in
          subst (λ (o : Outcome). o.events ≤ s.limit) (sym (past_limit s.limit m seed h past)) (omega (arith, n))
      | inr all ↦ subst (λ (o : Outcome). o.events ≤ s.limit) (sym (within_limit s.limit m seed h all)) all
    ]

-- what holds of an answer holds of whatever follows from it
pub ok_then : {V E : Type 0} (P Q : V → Type 0) (r : Result V E) → ((v : V) → P v → Q v) → IfOk r P → IfOk r Q
ok_then P Q (Ok v) f h = f v h
ok_then P Q (Err e) f h = h
