-- Where each firing lowers a number by one, and where it is 0 at rest, a history that goes on long enough has so many events.
use Rattle.std.proofs.Common.{◌≡◌, ℕ, ◌+◌, ◌*◌, ◌≤◌, List, [], ◌∷◌, ◌++◌, Option, Some, None, ◌⊎◌, inl, inr, refl, sym, ap, ◌∙◌, subst, arith, if◌then◌else◌}
use Rattle.std.proofs.lemmas.Option.{none-some}
use Rattle.std.proofs.lemmas.Bool.{cases_eq, le-leb}
use Rattle.surf_kinds.specs.declared.rule.Rule.{Rule}
use Rattle.surf_kinds.specs.declared.site.SpeciesId.{SpeciesId}
use Rattle.surf_kinds.specs.declared.site.SiteState.{SiteState}
use Rattle.surf_kinds.specs.declared.event.Event.{Event}
use Rattle.lattice.specs.Shape.{Shape}
use Rattle.lattice.specs.Surface.{after}
use Rattle.plan.specs.Network.{Network}
use Rattle.plan.specs.Next.{least}
use Rattle.plan.specs.History.{within, due, history, IsHistory}
use Rattle.plan.proofs.LawLemmas.{due_next, is_history}
use Rattle.reach.specs.Reach.{Firing, firing_of, species_in, Fires, Reaches, IsReached}
use Rattle.reach.specs.Bounds.{AreLastBy, HaveRateOne}
use Rattle.reach.specs.Counting.{CountsDown, UsesUp}
use Rattle.reach.proofs.Species.{due_fires}
use Rattle.reach.proofs.Rests.{rests}
use Rattle.reach.proofs.Waits.{next_by, after_by}

-- what fires on a reached surface gives a reached one
reaches_more : (l : Shape) (rules : List Rule) (fs : List Firing) (f : Firing) (S T U : List SpeciesId) → Reaches l rules S fs T → Fires l rules f T U → Reaches l rules S (fs ++ f ∷ []) U
reaches_more l rules [] f S T U same fires = (U, subst (λ X. Fires l rules f X U) (sym same) fires, refl)
reaches_more l rules (g ∷ fs) f S T U reaches fires = (reaches.0, reaches.1, reaches_more l rules fs f reaches.0 T U reaches.2 fires)

pub reached_more : (l : Shape) (rules : List Rule) (f : Firing) (S T U : List SpeciesId) → IsReached l rules S T → Fires l rules f T U → IsReached l rules S U
reached_more l rules f S T U r fires = (r.0 ++ f ∷ [], reaches_more l rules r.0 f S T U r.1 fires)

-- an event within the duration is due
due_within : (n : Network) (until : ℕ) (sites : List SiteState) (e : Event) → least n sites ≡ Some e → e.time ≤ until → due n until sites ≡ Some e
due_within n until sites e is le = ap (within until) is ∙ ap (λ t. if t then Some e else None) (le-leb e.time until le)

-- the least event comes at most so much after the last rewriting
least_by : (n : Network) (sites : List SiteState) (time : ℕ) (e : Event) → HaveRateOne n.rules → AreLastBy time sites → least n sites ≡ Some e → e.time ≤ time + 44361420
least_by n sites time e ones by is = next_by n sites e.place.0 time e ones by (due_next n e.time sites e (due_within n e.time sites e is (omega arith))).0

none_or_some : (o : Option Event) → (o ≡ None) ⊎ ((e : Event) × (o ≡ Some e))
none_or_some None = inl refl
none_or_some (Some e) = inr (e, refl)

-- where nothing is due, nothing is left
nothing_left : (n : Network) (until time : ℕ) (S : List SpeciesId) (work : List SpeciesId → ℕ) (sites : List SiteState) → CountsDown n.lattice n.rules S work → HaveRateOne n.rules
    → IsReached n.lattice n.rules S (species_in sites) → AreLastBy time sites → time + 44361420 * work (species_in sites) ≤ until → due n until sites ≡ None → work (species_in sites) ≡ 0
nothing_left n until time S work sites c ones reached by room none = elim (none_or_some (least n sites)) [
  | inl rest ↦ c.ends (species_in sites) reached (rests n sites rest)
  | inr e ↦ elim (cases_eq (work (species_in sites)) 0) [
    | inl zero ↦ zero
    | inr more ↦
        let le = least_by n sites time e.0 ones by e.1 in
        absurd (none-some e.0 (sym none ∙ due_within n until sites e.0 e.1 (omega (arith, le, more, room))))
  ]
]

ends_after : (n : Network) (until : ℕ) (S : List SpeciesId) (work : List SpeciesId → ℕ) → CountsDown n.lattice n.rules S work → HaveRateOne n.rules
    → (es : List Event) (sites : List SiteState) (time : ℕ) → IsHistory n until sites es → IsReached n.lattice n.rules S (species_in sites) → AreLastBy time sites → time + 44361420 * work (species_in sites) ≤ until
    → UsesUp n.lattice n.rules work sites es
ends_after n until S work c ones [] sites time h reached by room =
    let none = nothing_left n until time S work sites c ones reached by room h in
    record { count = sym none; ended = none }
ends_after n until S work c ones (e ∷ es) sites time h reached by room =
    let next = after n.lattice n.rules sites e in
    let fires = due_fires n until sites e h.0 in
    let falls : work (species_in next) + 1 ≡ work (species_in sites) = c.falls (species_in sites) (species_in next) (firing_of e) reached fires in
    let le = next_by n sites e.place.0 time e ones by (due_next n until sites e h.0).0 in
    let rest = ends_after n until S work c ones es next (time + 44361420) h.1 (reached_more n.lattice n.rules (firing_of e) S (species_in sites) (species_in next) reached fires)
    (after_by n.lattice n.rules e (time + 44361420) sites le (λ k s is. omega (arith, by k s is))) (omega (arith, falls, room)) in
    record { count = omega (arith, rest.count, falls); ended = rest.ended }

-- the history is as long as the number
pub uses_up : (n : Network) (until time : ℕ) (work : List SpeciesId → ℕ) (sites : List SiteState) → CountsDown n.lattice n.rules (species_in sites) work → HaveRateOne n.rules
    → AreLastBy time sites → time + 44361420 * work (species_in sites) ≤ until → UsesUp n.lattice n.rules work sites (history n until sites)
uses_up n until time work sites c ones by room = ends_after n until (species_in sites) work c ones (history n until sites) sites time (is_history n until sites) ([], refl) by room
