-- A region's surface with the next events of the region's own places, and how the events go back with it.
use Rattle.std.specs.Prelude.{◌≡◌, ℕ, ◌==◌, ◌&&◌, not, true, List, [], ◌∷◌, ◌++◌, ⊤, ◌⊎◌, Option, Some, IfSome, if◌then◌else◌}
use Rattle.surf_kinds.specs.declared.event.Event.{Event}
use Rattle.surf_kinds.specs.declared.event.Key.{Key}
use Rattle.surf_kinds.specs.declared.site.SpeciesId.{SpeciesId}
use Rattle.surf_kinds.specs.declared.site.SiteState.{SiteState}
use Rattle.surf_kinds.specs.Keys.{is_before, at, below, ◌is_upto◌}
use Rattle.lattice.specs.Ranges.{is_in_range}
use Rattle.lattice.specs.Surface.{after_all}
use Rattle.lattice.specs.declared.place_range.PlaceRange.{PlaceRange}
use Rattle.plan.specs.Network.{Network}
use Rattle.plan.specs.Next.{next}
use Rattle.event_queue.specs.QueueView.{QueueView, event_at}
use Rattle.surface_state.specs.SurfaceView.{SurfaceView}
use Rattle.timeline.specs.TimelineView.{events_of}
use Rattle.next_events.specs.Entries.{CoversRange, AreUpToDate}
use Rattle.warp_core.specs.Grounds.{IsGround}
use Rattle.region_run.specs.declared.changes.Change.{Change}
use Rattle.region_run.specs.declared.board.Board.{Board}

-- the queue's entry of a place
abbrev pub entry_of : QueueView → ℕ → Option Event
entry_of q p = event_at q (record { 0 = p })

-- What the entry of a place was before the changes from a key on: what the first of these replaced there, or what it is now.
abbrev pub entry_before : Key → List Change → (ℕ → Option Event) → ℕ → Option Event
entry_before k [] now p = now p
entry_before k (c ∷ cs) now p = if not (is_before c.at k) && c.place.0 == p then c.was else entry_before k cs now p

abbrev pub AllChanges : (Change → Type 0) → List Change → Type 0
AllChanges P [] = ⊤
AllChanges P (c ∷ cs) = P c × AllChanges P cs

-- one of the changes is at the place
abbrev pub HasChange : ℕ → List Change → Type 0
HasChange p [] = ⊥
HasChange p (c ∷ cs) = (c.place.0 ≡ p) ⊎ HasChange p cs

-- no change comes before one that stands ahead of it
abbrev pub AreInOrder : List Change → Type 0
AreInOrder [] = ⊤
AreInOrder (c ∷ cs) = AllChanges (λ d. c.at is_upto d.at) cs × AreInOrder cs

-- the change is at a place of the range, and was made with one of these events
pub record IsChange (r : PlaceRange) (es : List Event) (c : Change) : Type 0 where
  pub inside : is_in_range r c.place.0 ≡ true
  pub event : IfSome c.was (λ e. e.place ≡ c.place)
  pub made : (e : Event) × (at c.at es ≡ Some e)

-- These changes of the queue came with the events: before those from a key on, the entries were the next events on the surface that the events below the key leave.
pub record GoesBack (n : Network) (base : List SiteState) (floor : Key) (es : List Event) (r : PlaceRange) (cs : List Change) (q : QueueView) : Type 0 where
  pub order : AreInOrder cs
  pub each : AllChanges (IsChange r es) cs
  pub before : (k : Key) → floor is_upto k → (p : ℕ) → is_in_range r p ≡ true → entry_before k cs (entry_of q) p ≡ next n (after_all n.lattice n.rules base (below k es)) p

-- The entries lead from the base, which is the first surface after past events, to the surface; the queue has the next events of the own places on it; and where entries may be undone, the queue goes back with them.
pub record IsBoard (n : Network) (cells : List SpeciesId) (past : List Event) (base : SurfaceView) (floor : Key) (b : Board) : Type 0 where
  pub ground : IsGround n cells past base b.timeline.entries b.surface
  pub covers : CoversRange b.range b.queue
  pub up_to_date : AreUpToDate n b.surface.sites (is_in_range b.range) b.queue
  pub back : b.undoable ≡ true → GoesBack n base.sites floor (events_of b.timeline.entries) b.range b.changes.items b.queue

-- These changes were noted at a key: one for each of these places that the range has, with the queue's entry there.
pub record AreNoted (at : Key) (r : PlaceRange) (q : QueueView) (among : ℕ → Type 0) (old new : List Change) : Type 0 where
  pub more : List Change
  pub is : new ≡ old ++ more
  pub each : AllChanges (λ c. (c.at ≡ at) × (is_in_range r c.place.0 ≡ true) × (c.was ≡ entry_of q c.place.0) × IfSome c.was (λ e. e.place ≡ c.place)) more
  pub all : (p : ℕ) → is_in_range r p ≡ true → among p → HasChange p more

-- The last changes, from a key on, were taken back: the entries are what they were before these.
pub record ArePutBack (k : Key) (r : PlaceRange) (cs cs' : List Change) (q q' : QueueView) : Type 0 where
  pub gone : List Change
  pub parts : cs ≡ cs' ++ gone
  pub late : AllChanges (λ c. k is_upto c.at) gone
  pub entries : (p : ℕ) → is_in_range r p ≡ true → entry_of q' p ≡ entry_before k gone (entry_of q) p
  pub covers : CoversRange r q'
