-- The entries of a queue, and how they change with the surface.
use Rattle.std.specs.Prelude.{◌≡◌, ℕ, ◌+◌, ◌*◌, ◌⊎◌, Bool, true, List, length}
use Rattle.surf_kinds.specs.declared.site.SiteState.{SiteState}
use Rattle.surf_kinds.specs.Steps.{end_of_places}
use Rattle.lattice.specs.Shape.{Shape}
use Rattle.lattice.specs.Places.{IsPlace}
use Rattle.lattice.specs.declared.place_range.PlaceRange.{PlaceRange}
use Rattle.event_queue.specs.QueueView.{QueueView, HasPlace, event_at}
use Rattle.plan.specs.Network.{Network}
use Rattle.plan.specs.Next.{next}

-- the range of all places of a lattice
abbrev pub all_places : Shape → PlaceRange
all_places l = record { first = 0; end = end_of_places (l.rows * l.cols) }

-- the queue has an entry for each of these places of the lattice
abbrev pub Covers : (ℕ → Bool) → Shape → QueueView → Type 0
Covers has l q = (k : ℕ) → has k ≡ true → IsPlace l k → HasPlace q (record { 0 = k })

-- the queue has an entry for each place of the range, and no other
pub record CoversRange (r : PlaceRange) (q : QueueView) : Type 0 where
  pub first : q.first ≡ r.first
  pub end : q.first + length q.events ≡ r.end

-- the entry of the place is its next event on this surface
abbrev pub IsUpToDate : Network → List SiteState → QueueView → ℕ → Type 0
IsUpToDate n sites q place = event_at q (record { 0 = place }) ≡ next n sites place

-- so it is at each of these places that has an entry
abbrev pub AreUpToDate : Network → List SiteState → (ℕ → Bool) → QueueView → Type 0
AreUpToDate n sites has q = (k : ℕ) → has k ≡ true → HasPlace q (record { 0 = k }) → IsUpToDate n sites q k

-- the entries of the places that the queue has among these are their next events on this surface, and all others stay
pub record IsRefreshed (n : Network) (sites : List SiteState) (has : ℕ → Bool) (among : ℕ → Type 0) (old new : QueueView) : Type 0 where
  pub first : new.first ≡ old.first
  pub count : length new.events ≡ length old.events
  pub set : (k : ℕ) → has k ≡ true → IsPlace n.lattice k → among k → IsUpToDate n sites new k
  pub others : (k : ℕ) → HasPlace old (record { 0 = k }) → (event_at new (record { 0 = k }) ≡ event_at old (record { 0 = k })) ⊎ ((has k ≡ true) × among k × IsUpToDate n sites new k)

-- the place's entry needs no refreshing: it has its next event, or it isn't one of these places
abbrev pub IsDone : Network → List SiteState → (ℕ → Bool) → QueueView → ℕ → Type 0
IsDone n sites has q k = has k ≡ true → HasPlace q (record { 0 = k }) × IsUpToDate n sites q k
