-- A region at work: its part, and the messages that wait in its outboxes.
use Rattle.std.specs.Prelude.{ℕ, ◌≡◌, ◌==◌, replicate, ◌<◌, ◌≤◌, List, [], length, map, slice_index_or, Vec, vec_len, vec_capacity}
use Rattle.std.specs.Global.{Global}
use Rattle.surf_kinds.specs.declared.event.Event.{Event}
use Rattle.surf_kinds.specs.declared.event.Key.{Key}
use Rattle.surf_kinds.specs.declared.site.SpeciesId.{SpeciesId}
use Rattle.surf_kinds.specs.Keys.{keep, below, origin}
use Rattle.regions.specs.Bands.{Bands, owner_of}
use Rattle.plan.specs.Network.{Network}
use Rattle.surface_state.specs.SurfaceView.{SurfaceView}
use Rattle.timeline.specs.TimelineView.{events_of}
use Rattle.border.specs.Stacked.{stack_of}
use Rattle.border.specs.declared.op.Op.{Op}
use Rattle.warp_core.specs.declared.region.Region.{Region}
use Rattle.warp_core.specs.Parts.{Part}
use Rattle.warp_core.specs.Grounds.{IsGround}

-- the items of the vector at an index
abbrev pub items_at : {X : Type 0} → List (Vec X Global) → ℕ → List X
items_at vs i = slice_index_or (map (λ v. v.items) vs) i []

abbrev pub part_of : Region → Part
part_of r = record { timeline = events_of r.timeline.entries; clock = r.clock; stack = stack_of r.stacks }

abbrev pub outbox_of : Region → ℕ → List Op
outbox_of r l = items_at r.outboxes.items l

-- each of the vectors from one index up to another has room for one more
abbrev pub HaveRoom : {X : Type 0} → ℕ → ℕ → List (Vec X Global) → Type 0
HaveRoom {X} low high vs = (l : ℕ) (d : Vec X Global) → low ≤ l → l < high → vec_len (slice_index_or vs l d) < vec_capacity (slice_index_or vs l d)

-- room for one entry, one message taken, and one put into each outbox
pub record HasRoom (r : Region) : Type 0 where
  pub timeline : 0 < r.timeline.spare
  pub stacks : 0 < r.stacks.spare
  pub outboxes : HaveRoom 0 (length r.outboxes.items) r.outboxes.items

-- there is a stack and an outbox for each region
pub record IsSized (count : ℕ) (r : Region) : Type 0 where
  pub stacks : length r.stacks.stacks ≡ count
  pub outboxes : length r.outboxes.items ≡ count

-- From old to new, where the ground holds before it holds after.
abbrev pub KeepsGround : Network → Region → Region → Type 0
KeepsGround n old new =
    (cells : List SpeciesId) (past : List Event) (base : SurfaceView)
    → IsGround n cells past base old.timeline.entries old.surface → IsGround n cells past base new.timeline.entries new.surface

-- the surface has some ground
abbrev pub HasGround : Network → Region → Type 0
HasGround n r = (cells : List SpeciesId) × (past : List Event) × (base : SurfaceView) × IsGround n cells past base r.timeline.entries r.surface

-- Region r but for the room that it has.
pub record IsAlike (old new : Region) : Type 0 where
  pub surface : new.surface ≡ old.surface
  pub entries : new.timeline.entries ≡ old.timeline.entries
  pub clock : new.clock ≡ old.clock
  pub stacks : new.stacks.stacks ≡ old.stacks.stacks
  pub outboxes : (l : ℕ) → outbox_of new l ≡ outbox_of old l
  pub long : length new.outboxes.items ≡ length old.outboxes.items

-- the own events of a region below a key
abbrev pub own_below : Bands → ℕ → Key → List Event → List Event
own_below b region k es = keep (λ j. owner_of b j.place.0 == region) (below k es)

-- no entries, no messages, and the clock at the first key
pub record IsFirstRegion (start : SurfaceView) (count : ℕ) (r : Region) : Type 0 where
  pub surface : r.surface ≡ start
  pub entries : r.timeline.entries ≡ []
  pub clock : r.clock ≡ origin
  pub stacks : r.stacks.stacks ≡ replicate count []
  pub outboxes : (l : ℕ) → outbox_of r l ≡ []
  pub long : length r.outboxes.items ≡ count
