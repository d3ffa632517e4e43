-- What stands while entries are undone, last first.
use Rattle.std.proofs.Common.{◌≡◌, ℕ, ◌+◌, List, [], ◌∷◌, ◌++◌, length, sym, ap, ◌∙◌, subst, arith, append-nil, append_assoc}
use Rattle.std.specs.Prelude.{not}
use Rattle.std.proofs.lemmas.List.Elements.{filter-append}
use Rattle.surf_kinds.specs.declared.event.Key.{Key}
use Rattle.surf_kinds.specs.Keys.{is_before, ◌is_upto◌}
use Rattle.lattice.specs.Places.{IsPlace}
use Rattle.surface_state.specs.SurfaceView.{SurfaceView}
use Rattle.surface_state.specs.Changes.{undone, IsLeft, IsSecondOf, IsBelow}
use Rattle.surface_state.proofs.LawLemmas.{left_applied, place_before, pair_before}
use Rattle.timeline.specs.declared.entry.Entry.{Entry}
use Rattle.timeline.specs.TimelineView.{entry_key, below, from, EndsBelow}
use Rattle.timeline.specs.Led.{IsStep, LedTo}
use Rattle.timeline.proofs.Rising.{Rise, rise_popped, below_skip, from_cons, all_below}
use Rattle.timeline.proofs.Leading.{parted, step_undone}

-- of the entries at first some are removed, all from the key on, and the surface is the one that stood before them
pub record Undoing (key : Key) (first : List Entry) (start : SurfaceView) (entries : List Entry) (now : SurfaceView) (count : ℕ) : Type 0 where
  pub removed : List Entry
  pub parts : first ≡ entries ++ removed
  pub none_below : below key removed ≡ []
  pub all_from : from key removed ≡ removed
  pub counted : count ≡ length removed
  pub rise : Rise entries
  pub stood : (s : SurfaceView) → LedTo s removed start → now ≡ s

pub undoing_more : (key : Key) (first : List Entry) (start : SurfaceView) (entries less : List Entry) (now new : SurfaceView) (count : ℕ) (e : Entry)
    → Undoing key first start entries now count → entries ≡ less ++ e ∷ [] → key is_upto entry_key e → new ≡ undone now e.before
    → Undoing key first start less new (count + 1)
undoing_more key first start entries less now new count e u last late back =
    record {
      removed = e ∷ u.removed;
      parts = u.parts ∙ (ap (λ l. l ++ u.removed) last ∙ append_assoc less (e ∷ []) u.removed);
      none_below = below_skip key e u.removed late ∙ u.none_below;
      all_from = from_cons key e u.removed late ∙ ap (λ l. e ∷ l) u.all_from;
      counted = omega (arith, u.counted);
      rise = rise_popped less e (subst Rise last u.rise);
      stood = λ s led. back ∙ (ap (λ t. undone t e.before) (u.stood led.0 led.2) ∙ step_undone s led.0 e led.1);
    }

pub undoing_done : (key : Key) (first : List Entry) (start : SurfaceView) (entries : List Entry) (now : SurfaceView) (count : ℕ)
    → Undoing key first start entries now count → EndsBelow key entries
    → (entries ≡ below key first) × (count ≡ length (from key first)) × ((s : SurfaceView) → LedTo s (from key first) start → now ≡ s)
undoing_done key first start entries now count u last =
    let whole = all_below key entries u.rise last in
    let cut : from key first ≡ u.removed =
    ap (from key) u.parts ∙ (filter-append (λ x. not (is_before (entry_key x) key)) entries u.removed ∙ (ap (λ l. l ++ from key u.removed) whole.1 ∙ u.all_from)) in (
      sym (ap (below key) u.parts ∙ (filter-append (λ x. is_before (entry_key x) key) entries u.removed ∙ (ap (λ l. below key entries ++ l) u.none_below ∙ (append-nil (below key entries) ∙ whole.0)))),
      u.counted ∙ ap length (sym cut),
      λ s led. u.stood s (subst (λ l. LedTo s l start) cut led),
    )

-- the last entry was the last step to the surface
last_step : (key : Key) (first : List Entry) (start base : SurfaceView) (entries less : List Entry) (now : SurfaceView) (count : ℕ) (e : Entry)
    → Undoing key first start entries now count → LedTo base first start → entries ≡ less ++ e ∷ []
    → (s : SurfaceView) × IsStep s e now
last_step key first start base entries less now count e u led last =
    let all : LedTo base ((less ++ e ∷ []) ++ u.removed) start = subst (λ l. LedTo base l start) (u.parts ∙ ap (λ l. l ++ u.removed) last) led in
    let before = parted base start (less ++ e ∷ []) u.removed all in
    let step = parted base before.0 less (e ∷ []) before.1 in
    let now_is : now ≡ step.2.0 = u.stood before.0 before.2 ∙ step.2.2 in
    (step.0, subst (λ t. IsStep step.0 e t) (sym now_is) step.2.1)

-- what `undo` needs
pub record MayBeUndone (now : SurfaceView) (e : Entry) : Type 0 where
  pub place : IsPlace now.lattice e.before.event.place.0
  pub pair : IsSecondOf now.lattice e.before.event.place.0 e.before.second
  pub known : IsBelow now.species_count e.before
  pub left : IsLeft now e.before

step_may : (s now : SurfaceView) (e : Entry) → IsStep s e now → MayBeUndone now e
step_may s now e step =
    subst (λ t. MayBeUndone t e) (sym step.left)
    (record { place = place_before s e.before step.stood; pair = pair_before s e.before step.stood; known = step.known; left = left_applied s e.before step.products step.stood })

-- and so it may be undone
pub last_may : (key : Key) (first : List Entry) (start base : SurfaceView) (entries less : List Entry) (now : SurfaceView) (count : ℕ) (e : Entry)
    → Undoing key first start entries now count → LedTo base first start → entries ≡ less ++ e ∷ []
    → MayBeUndone now e
last_may key first start base entries less now count e u led last =
    let step = last_step key first start base entries less now count e u led last in step_may step.0 now e step.1
