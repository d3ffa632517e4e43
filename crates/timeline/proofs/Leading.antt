-- Entries that lead from one surface to another.
use Rattle.std.proofs.Common.{◌≡◌, List, [], ◌∷◌, Option, ◌++◌, refl, sym, ap, ◌∙◌, subst}
use Rattle.surf_kinds.specs.declared.event.Event.{Event}
use Rattle.surf_kinds.specs.declared.event.Key.{Key}
use Rattle.surf_kinds.specs.declared.site.SpeciesId.{SpeciesId}
use Rattle.surface_state.specs.SurfaceView.{SurfaceView}
use Rattle.surface_state.specs.Changes.{applied, undone, IsBefore, IsBelow}
use Rattle.surface_state.proofs.LawLemmas.{undone_applied}
use Rattle.timeline.specs.declared.entry.Entry.{Entry}
use Rattle.timeline.specs.TimelineView.{below, from}
use Rattle.timeline.specs.Led.{IsStep, LedTo}
use Rattle.timeline.proofs.Rising.{Rise, parts}

pub parted : (s now : SurfaceView) (first rest : List Entry) → LedTo s (first ++ rest) now → (mid : SurfaceView) × LedTo s first mid × LedTo mid rest now
parted s now [] rest led = (s, refl, led)
parted s now (e ∷ first) rest led =
    let more = parted led.0 now first rest led.2 in (more.0, (led.0, led.1, more.1), more.2)

pub joined : (s mid now : SurfaceView) (first rest : List Entry) → LedTo s first mid → LedTo mid rest now → LedTo s (first ++ rest) now
joined s mid now [] rest led more = subst (λ t. LedTo t rest now) led more
joined s mid now (e ∷ first) rest led more = (led.0, led.1, joined led.0 mid now first rest led.2 more)

pub pushed : (s mid now : SurfaceView) (entries : List Entry) (e : Entry) → LedTo s entries mid → IsStep mid e now → LedTo s (entries ++ e ∷ []) now
pushed s mid now entries e led step = joined s mid now entries (e ∷ []) led (now, step, refl)

pub step_applied : (s now : SurfaceView) (event : Event) (to : SpeciesId × Option SpeciesId) (e : Entry)
    → e.before.event ≡ event → now ≡ applied s event to → IsBefore s e.before → IsBelow s.species_count e.before → IsStep s e now
step_applied s now event to e is left stood known =
    record { products = to; stood = stood; known = known; left = left ∙ ap (λ v. applied s v to) (sym is) }

-- undoing gives back what stood before a step
pub step_undone : (s now : SurfaceView) (e : Entry) → IsStep s e now → undone now e.before ≡ s
step_undone s now e step = ap (λ t. undone t e.before) step.left ∙ undone_applied s e.before step.products step.stood

pub same_start : (s t now : SurfaceView) (entries : List Entry) → LedTo s entries now → LedTo t entries now → s ≡ t
same_start s t now [] led other = sym led ∙ other
same_start s t now (e ∷ entries) led other =
    sym (step_undone s led.0 e led.1)
    ∙ (ap (λ v. undone v e.before) (same_start led.0 other.0 now entries led.2 other.2) ∙ step_undone t other.0 e other.1)

-- where keys rise, the entries below a key lead to a surface from which the others lead on
pub cut : (key : Key) (s now : SurfaceView) (entries : List Entry) → Rise entries → LedTo s entries now → (mid : SurfaceView) × LedTo s (below key entries) mid × LedTo mid (from key entries) now
cut key s now entries rise led = parted s now (below key entries) (from key entries) (subst (λ l. LedTo s l now) (parts key entries rise) led)
