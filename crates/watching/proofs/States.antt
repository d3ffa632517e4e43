-- The state after the changes of a list of events is that of the surface after them.
use Rattle.std.proofs.Common.{◌≡◌, ℕ, ◌+◌, ◌*◌, ◌<◌, List, [], ◌∷◌, ◌++◌, length, fold, Option, Some, None, refl, sym, ap, ◌∙◌, arith, All}
use Rattle.std.specs.Prelude.{IsSome}
use Rattle.surf_kinds.specs.declared.rule.Rule.{Rule}
use Rattle.surf_kinds.specs.declared.site.Sites.{Sites}
use Rattle.surf_kinds.specs.declared.site.SiteState.{SiteState}
use Rattle.surf_kinds.specs.declared.site.SpeciesId.{SpeciesId}
use Rattle.surf_kinds.specs.declared.event.Event.{Event}
use Rattle.lattice.specs.Shape.{Shape}
use Rattle.lattice.specs.Places.{sites_of}
use Rattle.lattice.specs.Surface.{after, after_all, last_from, end_time}
use Rattle.lattice.proofs.LawLemmas.{after_length}
use Rattle.plan.specs.Network.{Network}
use Rattle.plan.specs.Products.{LeavesWithin}
use Rattle.plan.specs.History.{due, AreNext}
use Rattle.plan.proofs.LawLemmas.{due_next, offer_fits, fits_is_place}
use Rattle.trace_text.specs.Lines.{cells_of, counts_of}
use Rattle.frames.specs.declared.sample.Sample.{Sample}
use Rattle.frames.specs.States.{next, opening, changed}
use Rattle.frames.specs.States.{after as state_of}
use Rattle.frames.proofs.LawLemmas.{after-events}
use Rattle.watching.specs.Changes.{change_at, change_of, changes_of, state_after}
use Rattle.watching.proofs.Following.{counts_next, below_next}

some_sites : (o : Option Sites) → IsSome o → (p : Sites) × (o ≡ Some p)
some_sites None h = absurd cc
some_sites (Some p) h = (p, refl)

-- the sites of the place of an event that is due
pub due_sites : (n : Network) (until : ℕ) (sites : List SiteState) (e : Event) → due n until sites ≡ Some e → (p : Sites) × (sites_of n.lattice e.place.0 ≡ Some p)
due_sites n until sites e is = some_sites (sites_of n.lattice e.place.0) (fits_is_place n e.place.0 e.channel (offer_fits n sites e.place.0 e (due_next n until sites e is).0))

pub all_append : (l : Shape) (rules : List Rule) (sites : List SiteState) (xs ys : List Event) → after_all l rules sites (xs ++ ys) ≡ after_all l rules (after_all l rules sites xs) ys
all_append l rules sites [] ys = refl
all_append l rules sites (x ∷ xs) ys = all_append l rules (after l rules sites x) xs ys

pub changes_append : (l : Shape) (rules : List Rule) (sites : List SiteState) (xs ys : List Event) → changes_of l rules sites (xs ++ ys) ≡ changes_of l rules sites xs ++ changes_of l rules (after_all l rules sites xs) ys
changes_append l rules sites [] ys = refl
changes_append l rules sites (x ∷ xs) ys = ap (λ cs. change_of l rules sites x ∷ cs) (changes_append l rules (after l rules sites x) xs ys)

pub changes_length : (l : Shape) (rules : List Rule) (sites : List SiteState) (es : List Event) → length (changes_of l rules sites es) ≡ length es
changes_length l rules sites [] = refl
changes_length l rules sites (e ∷ es) = omega (arith, changes_length l rules (after l rules sites e) es)

pub next_append : (n : Network) (until : ℕ) (sites : List SiteState) (xs ys : List Event) → AreNext n until sites (xs ++ ys) → AreNext n until (after_all n.lattice n.rules sites xs) ys
next_append n until sites [] ys h = h
next_append n until sites (x ∷ xs) ys h = next_append n until (after n.lattice n.rules sites x) xs ys h.1

pub next_front : (n : Network) (until : ℕ) (sites : List SiteState) (xs ys : List Event) → AreNext n until sites (xs ++ ys) → AreNext n until sites xs
next_front n until sites [] ys h = tt
next_front n until sites (x ∷ xs) ys h = (h.0, next_front n until (after n.lattice n.rules sites x) xs ys h.1)

-- the time of the last of these events, which follow one at a tick
abbrev time_after : ℕ → List Event → ℕ
time_after tick [] = tick
time_after tick (e ∷ es) = time_after e.time es

last_time : (e : Event) (es : List Event) → (last_from e es).time ≡ time_after e.time es
last_time e [] = refl
last_time e (f ∷ es) = last_time f es

end_is : (es : List Event) → end_time es ≡ time_after 0 es
end_is [] = refl
end_is (e ∷ es) = last_time e es

change_time : (rules : List Rule) (cells : List SpeciesId) (e : Event) (o : Option Sites) → (change_at rules cells e o).time ≡ e.time
change_time rules cells e None = refl
change_time rules cells e (Some p) = refl

fold_time : (l : Shape) (rules : List Rule) (s : Sample) (sites : List SiteState) (es : List Event) → (fold next s (changes_of l rules sites es)).time ≡ time_after s.time es
fold_time l rules s sites [] = refl
fold_time l rules s sites (e ∷ es) =
    fold_time l rules (next s (change_of l rules sites e)) (after l rules sites e) es ∙ ap (λ t. time_after t es) (change_time rules (cells_of sites) e (sites_of l e.place.0))

module _ (n : Network) (until kinds : ℕ) (leaves : All (LeavesWithin kinds) n.rules) where
  pub long_after : (sites : List SiteState) (es : List Event) → length sites ≡ n.lattice.rows * n.lattice.cols → length (after_all n.lattice n.rules sites es) ≡ n.lattice.rows * n.lattice.cols
  long_after sites [] long = long
  long_after sites (e ∷ es) long = long_after (after n.lattice n.rules sites e) es (after_length n.lattice n.rules sites e ∙ long)

  pub below_after : (sites : List SiteState) (es : List Event) → length sites ≡ n.lattice.rows * n.lattice.cols → All (λ (s : SiteState). s.species.0 < kinds) sites → AreNext n until sites es → All (λ (s : SiteState). s.species.0 < kinds) (after_all n.lattice n.rules sites es)
  below_after sites [] long below h = below
  below_after sites (e ∷ es) long below h =
      let p = due_sites n until sites e h.0 in
      below_after (after n.lattice n.rules sites e) es (after_length n.lattice n.rules sites e ∙ long) (below_next n.lattice n.rules sites e long p.0 p.1 kinds leaves below) h.1

  counts_after : (s : Sample) (sites : List SiteState) (es : List Event) → length sites ≡ n.lattice.rows * n.lattice.cols → All (λ (x : SiteState). x.species.0 < kinds) sites → s.counts ≡ counts_of sites kinds → AreNext n until sites es
      → (fold next s (changes_of n.lattice n.rules sites es)).counts ≡ counts_of (after_all n.lattice n.rules sites es) kinds
  counts_after s sites [] long below is h = is
  counts_after s sites (e ∷ es) long below is h =
      let p = due_sites n until sites e h.0 in
      let c = change_of n.lattice n.rules sites e in
      counts_after (next s c) (after n.lattice n.rules sites e) es (after_length n.lattice n.rules sites e ∙ long) (below_next n.lattice n.rules sites e long p.0 p.1 kinds leaves below)
      (ap (λ cs. changed cs c) is ∙ counts_next n.lattice n.rules sites e long p.0 p.1 kinds leaves below) h.1

  pub state_is : (sites : List SiteState) (es : List Event) → length sites ≡ n.lattice.rows * n.lattice.cols → All (λ (x : SiteState). x.species.0 < kinds) sites → AreNext n until sites es
      → state_of (counts_of sites kinds) (changes_of n.lattice n.rules sites es) ≡ state_after n.lattice n.rules kinds sites es
  state_is sites es long below h =
      let events = after-events (counts_of sites kinds) (changes_of n.lattice n.rules sites es) ∙ changes_length n.lattice n.rules sites es in
      let time = fold_time n.lattice n.rules (opening (counts_of sites kinds)) sites es ∙ sym (end_is es) in
      let counts = counts_after (opening (counts_of sites kinds)) sites es long below refl h in
      λ i. record { events = events i; time = time i; counts = counts i }
