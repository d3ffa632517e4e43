-- What stood before an event may be put back after it, and is then what stands there.
use Rattle.std.proofs.Common.{◌≡◌, ◌≢◌, ℕ, List, Option, Some, None, true, false, refl, sym, ap, ◌∙◌, subst, arith, set}
use Rattle.std.specs.Prelude.{slice_get, IfSome, IsSome, is_some, unwrap_or}
use Rattle.std.proofs.lemmas.Option.{get_or_from_slice_get}
use Rattle.std.proofs.lemmas.List.{set-set, set-get_or, set_comm}
use Rattle.surf_kinds.specs.declared.site.SiteId.{SiteId}
use Rattle.surf_kinds.specs.declared.site.SiteState.{SiteState}
use Rattle.surf_kinds.specs.declared.site.SpeciesId.{SpeciesId}
use Rattle.lattice.specs.Places.{IsPlace}
use Rattle.lattice.specs.Surface.{rewrite, rewrite_second, rewritten}
use Rattle.lattice.proofs.LawLemmas.{sites_differ, rewrite_other, rewrite_same}
use Rattle.surface_state.specs.declared.before.Before.{Before}
use Rattle.surface_state.specs.SurfaceView.{SurfaceView}
use Rattle.surface_state.specs.Changes.{applied, undone, rewrite_to, put_back, put_second, state_at, IsBefore, IsLeft, IsLeftAt, IsSecondOf}

-- the old state in its place again
put_again : (sites : List SiteState) (i : ℕ) (new old : SiteState) → slice_get sites i ≡ Some old → set (set sites i new) i old ≡ sites
put_again sites i new old at =
    set-set sites i new old ∙ ap (set sites i) (sym (get_or_from_slice_get sites i old old at)) ∙ set-get_or sites i old

back_one : (product : SpeciesId → SpeciesId) (time i : ℕ) (sites : List SiteState) (old : SiteState) → slice_get sites i ≡ Some old → set (rewrite product time i (slice_get sites i) sites) i old ≡ sites
back_one product time i sites old at =
    ap (λ o. set (rewrite product time i o sites) i old) at ∙ put_again sites i (rewritten (product old.species) time old) old at

-- both sites
back_two : (p q : SpeciesId → SpeciesId) (time i j : ℕ) (sites : List SiteState) (old other : SiteState)
    → j ≢ i → slice_get sites i ≡ Some old → slice_get sites j ≡ Some other
    → set (set (rewrite q time j (slice_get (rewrite p time i (slice_get sites i) sites) j) (rewrite p time i (slice_get sites i) sites)) i old) j other ≡ sites
back_two p q time i j sites old other differ at at_other =
    let once = rewrite p time i (slice_get sites i) sites in
    let still : slice_get once j ≡ Some other = rewrite_other p time i (slice_get sites i) sites j differ ∙ at_other in
    set_comm (rewrite q time j (slice_get once j) once) i j old other (λ e. differ (sym e))
    ∙ ap (λ l. set l i old) (back_one q time j once other still)
    ∙ back_one p time i sites old at

differing : false ≢ true
differing h = absurd (grind (arith, h))

back_second : (p q : SpeciesId → SpeciesId) (time i : ℕ) (second : Option SiteId) (sites : List SiteState) (old : SiteState) (other : Option SiteState)
    → ((n : SiteId) → second ≡ Some n → n.0 ≢ i) → slice_get sites i ≡ Some old → state_at sites second ≡ other → is_some other ≡ is_some second
    → put_second second other (set (rewrite_second q time second (rewrite p time i (slice_get sites i) sites)) i old) ≡ sites
back_second p q time i None sites old other differ at at_second both = back_one p time i sites old at
back_second p q time i (Some n) sites old None differ at at_second both = absurd (differing both)
back_second p q time i (Some n) sites old (Some other) differ at at_second both = back_two p q time i n.0 sites old other (differ n refl) at at_second

undone_sites : (s : SurfaceView) (b : Before) (to : SpeciesId × Option SpeciesId) → IsBefore s b → (undone (applied s b.event to) b).sites ≡ s.sites
undone_sites s b to before =
    let time = b.event.time in
    ap (λ o. put_back b o (rewrite_to to time o s.sites)) before.is
    ∙ back_second (λ _. to.0) (unwrap_or to.1) time before.place.first.0 before.place.second s.sites b.first b.second
    (λ n second. sites_differ s.lattice b.event.place.0 before.place n before.is second) before.first before.second before.both

-- undoing gives the old surface back
pub undone_applied : (s : SurfaceView) (b : Before) (to : SpeciesId × Option SpeciesId) → IsBefore s b → undone (applied s b.event to) b ≡ s
undone_applied s b to before = ap (λ sites. record s { sites = sites }) (undone_sites s b to before)

left_first : (p q : SpeciesId → SpeciesId) (time i : ℕ) (second : Option SiteId) (sites : List SiteState) (old : SiteState)
    → ((n : SiteId) → second ≡ Some n → n.0 ≢ i) → slice_get sites i ≡ Some old
    → slice_get (rewrite_second q time second (rewrite p time i (slice_get sites i) sites)) i ≡ Some (rewritten (p old.species) time old)
left_first p q time i None sites old differ at = rewrite_same p time i sites old at
left_first p q time i (Some n) sites old differ at =
    let once = rewrite p time i (slice_get sites i) sites in
    rewrite_other q time n.0 (slice_get once n.0) once i (λ e. differ n refl (sym e)) ∙ rewrite_same p time i sites old at

left_second : (p q : SpeciesId → SpeciesId) (time i : ℕ) (second : Option SiteId) (sites : List SiteState) (other : Option SiteState)
    → ((n : SiteId) → second ≡ Some n → n.0 ≢ i) → state_at sites second ≡ other
    → IfSome other (λ old. IsLeftAt time old (state_at (rewrite_second q time second (rewrite p time i (slice_get sites i) sites)) second))
left_second p q time i second sites None differ at = tt
left_second p q time i None sites (Some old) differ at = tt
left_second p q time i (Some n) sites (Some old) differ at =
    let once = rewrite p time i (slice_get sites i) sites in
    let still : slice_get once n.0 ≡ Some old = rewrite_other p time i (slice_get sites i) sites n.0 (differ n refl) ∙ at in
    subst (IsLeftAt time old) (sym (rewrite_same q time n.0 once old still)) (refl, refl)

-- and it may be done
pub left_applied : (s : SurfaceView) (b : Before) (to : SpeciesId × Option SpeciesId) → IsBefore s b → IsLeft (applied s b.event to) b
left_applied s b to before =
    let time = b.event.time in
    let differ : (n : SiteId) → before.place.second ≡ Some n → n.0 ≢ before.place.first.0 = λ n second. sites_differ s.lattice b.event.place.0 before.place n before.is second in
    let first = left_first (λ _. to.0) (unwrap_or to.1) time before.place.first.0 before.place.second s.sites b.first differ before.first in
    let second = left_second (λ _. to.0) (unwrap_or to.1) time before.place.first.0 before.place.second s.sites b.second differ before.second in
    subst (λ o. IfSome o (λ p. IsLeftAt time b.first (slice_get (rewrite_to to time o s.sites) p.first.0) × IfSome b.second (λ old. IsLeftAt time old (state_at (rewrite_to to time o s.sites) p.second))))
    (sym before.is)
    (subst (IsLeftAt time b.first) (sym first) (refl, refl), second)

-- what stood before an event is that of a place of the lattice, and of as many sites
pub place_before : (s : SurfaceView) (b : Before) → IsBefore s b → IsPlace s.lattice b.event.place.0
place_before s b before = subst (λ o. IsSome o) (sym before.is) refl

pub pair_before : (s : SurfaceView) (b : Before) → IsBefore s b → IsSecondOf s.lattice b.event.place.0 b.second
pair_before s b before = subst (λ o. IfSome o (λ p. is_some b.second ≡ is_some p.second)) (sym before.is) before.both
