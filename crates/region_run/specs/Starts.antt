-- A region at its start, and what a change of room leaves.
use Rattle.std.specs.Prelude.{◌≡◌, ℕ, ◌^◌, ◌≤◌, ◌⊎◌, ◌&&◌, not, List, [], ◌∷◌, Option, Some, None, map, false, if◌then◌else◌}
use Rattle.surf_kinds.specs.declared.site.SiteState.{SiteState}
use Rattle.surf_kinds.specs.declared.event.Key.{Key}
use Rattle.surf_kinds.specs.declared.event.Event.{Event}
use Rattle.surf_kinds.specs.Keys.{origin, key_of, is_before}
use Rattle.timeline.specs.declared.entry.Entry.{Entry}
use Rattle.timeline.specs.TimelineView.{entry_key}
use Rattle.plan.specs.Network.{Network}
use Rattle.regions.specs.Bands.{Bands}
use Rattle.regions.specs.Neighbours.{AreNeighbours}
use Rattle.surface_state.specs.SurfaceView.{SurfaceView}
use Rattle.warp_core.specs.World.{World, end_key}
use Rattle.warp_core.specs.Parts.{Part, IsNextEntry, HasNoEntry}
use Rattle.region_run.specs.Sides.{SideView, number_of}
use Rattle.region_run.specs.Regions.{Base, part_of, line_to, ends_with, IsRegion}
use Rattle.region_run.specs.Runs.{HasSpare}
use Rattle.region_run.specs.declared.region.Region.{Region}
use Rattle.region_run.specs.declared.totals.Totals.{Totals}

-- what a region stands on at the start
abbrev pub first_base : SurfaceView → Base
first_base start = record { cells = map (λ (s : SiteState). s.species) start.sites; past = []; surface = start; floor = origin }

-- no turn was made, and all counts are 0
abbrev pub no_totals : Totals
no_totals = record { turns = 0; last_turn = record { added = 0; taken = 0; cut = 0; empty = false }; added = 0; cut = 0; forgotten = 0 }

-- No entries, no messages and no rings, and clock and floor at the first key.
pub record IsFirst (n : Network) (b : Bands) (id : ℕ) (start : SurfaceView) (r : Region) : Type 0 where
  pub id_is : r.id ≡ id
  pub floor : r.floor ≡ origin
  pub clock : r.clock ≡ origin
  pub timeline : (part_of r).timeline ≡ []
  pub stack : (l : ℕ) → (part_of r).stack l ≡ []
  pub line : (l : ℕ) → line_to r l ≡ []
  pub ends : (l : ℕ) → ends_with r l ≡ None
  pub totals : r.totals ≡ no_totals
  pub neighbours : AreNeighbours b id (number_of r.first) (number_of r.second)
  pub region : (until : ℕ) → until ≤ 10 ^ 15 → IsRegion n b until (first_base start) r

-- only the room is another, and no less
abbrev pub SameButRoom : Option SideView → Option SideView → Type 0
SameButRoom None None = Unit {0}
SameButRoom (Some s) (Some t) = (t ≡ record s { room = t.room }) × (s.room ≤ t.room)
SameButRoom None (Some t) = ⊥
SameButRoom (Some s) None = ⊥

-- All is the same but the room, and that is no less.
pub record IsRoomier (r t : Region) : Type 0 where
  pub id : t.id ≡ r.id
  pub board : t.board ≡ record r.board { timeline = t.board.timeline; changes = t.board.changes }
  pub entries : t.board.timeline.entries ≡ r.board.timeline.entries
  pub changes : t.board.changes.items ≡ r.board.changes.items
  pub clock : t.clock ≡ r.clock
  pub floor : t.floor ≡ r.floor
  pub stacks : t.stacks.stacks ≡ r.stacks.stacks
  pub first : SameButRoom r.first t.first
  pub second : SameButRoom r.second t.second
  pub totals : t.totals ≡ r.totals
  pub no_less : (m : ℕ) → HasSpare m r → HasSpare m t

-- The key of the next entry of a part over its own base, or the end key.
abbrev pub IsNextKeyOf : World → List SiteState → ℕ → Part → Key → Type 0
IsNextKeyOf w base i p k = ((e : Event) × IsNextEntry w base i p e × (key_of e ≡ k)) ⊎ (HasNoEntry w base i p × (k ≡ end_key w))

-- the neighbour of this number, if there is one, without rings or messages
abbrev pub IsNewSide : Option ℕ → Option SideView → Type 0
IsNewSide None None = Unit {0}
IsNewSide (Some other) (Some s) = (s.other ≡ other) × (s.ends ≡ None) × (s.outbox ≡ [])
IsNewSide None (Some s) = ⊥
IsNewSide (Some other) None = ⊥

-- the events of the entries below a key that are marked as own, and of those that are not
abbrev pub own_entries_below : Key → List Entry → List Event
own_entries_below k [] = []
own_entries_below k (e ∷ es) = if is_before (entry_key e) k && e.own then e.before.event ∷ own_entries_below k es else own_entries_below k es

abbrev pub received_entries_below : Key → List Entry → List Event
received_entries_below k [] = []
received_entries_below k (e ∷ es) = if is_before (entry_key e) k && not e.own then e.before.event ∷ received_entries_below k es else received_entries_below k es
