-- A region at work: its part of the core, and what holds of it.
use Rattle.std.specs.Prelude.{◌≡◌, ℕ, ◌^◌, ◌<◌, ◌≤◌, ◌⊎◌, ◌==◌, Bool, List, [], ◌∷◌, length, ⊤, Option, Some, None, true, false, if◌then◌else◌}
use Rattle.surf_kinds.specs.declared.event.Event.{Event}
use Rattle.surf_kinds.specs.declared.event.Key.{Key}
use Rattle.surf_kinds.specs.declared.site.SpeciesId.{SpeciesId}
use Rattle.surf_kinds.specs.Keys.{key_of, AllKeys, ◌is_upto◌, ◌is_below◌}
use Rattle.lattice.specs.Surface.{first_surface}
use Rattle.lattice.specs.declared.place_range.PlaceRange.{PlaceRange}
use Rattle.plan.specs.Network.{Network}
use Rattle.plan.specs.Next.{next}
use Rattle.regions.specs.Bands.{Bands, IsCut, owner_of}
use Rattle.regions.specs.Ranges.{IsRangeOf}
use Rattle.regions.specs.Seen.{is_told}
use Rattle.surface_state.specs.SurfaceView.{SurfaceView}
use Rattle.timeline.specs.declared.entry.Entry.{Entry}
use Rattle.timeline.specs.TimelineView.{events_of, entry_key}
use Rattle.border.specs.declared.op.Op.{Op}
use Rattle.border.specs.Stacked.{StacksView, stack_of}
use Rattle.warp_core.specs.World.{World}
use Rattle.warp_core.specs.Simulation.{world_of}
use Rattle.warp_core.specs.Messages.{ArePutsOf}
use Rattle.warp_core.specs.Parts.{Part, IsSound}
use Rattle.region_run.specs.Boards.{IsBoard}
use Rattle.region_run.specs.Sides.{SideView, is_other, line_of, ends_of}
use Rattle.region_run.specs.declared.region.Region.{Region}
use Rattle.region_run.specs.declared.side.Ends.{Ends}

-- What a region stands on and no field of it has: the first species, the events that were forgotten, the surface after them, and the floor.
pub record Base : Type 0 where
  pub cells : List SpeciesId
  pub past : List Event
  pub surface : SurfaceView
  pub floor : Key

-- the simulation from these first species on
abbrev pub world_at : Network → Bands → ℕ → Base → World
world_at n b until x = world_of n b until (first_surface x.cells)

-- the stack of a region: that of the neighbour who has its number, and else none
abbrev pub stack_in : Option SideView → Option SideView → StacksView → ℕ → List Event
stack_in first second s l = if is_other first l then stack_of s 0 else (if is_other second l then stack_of s 1 else [])

-- what was sent to a region, and then what waits for it
abbrev pub line_in : Option SideView → Option SideView → ℕ → List Op
line_in first second l = if is_other first l then line_of first else (if is_other second l then line_of second else [])

abbrev pub ends_in : Option SideView → Option SideView → ℕ → Option Ends
ends_in first second l = if is_other first l then ends_of first else (if is_other second l then ends_of second else None)

abbrev pub part_of : Region → Part
part_of r = record { timeline = events_of r.board.timeline.entries; clock = r.clock; stack = stack_in r.first r.second r.stacks }

-- what was sent to region l, and then what waits for it: what a call adds is what it puts for l
abbrev pub line_to : Region → ℕ → List Op
line_to r l = line_in r.first r.second l

-- the ends of the rings to and from region l, once there are any
abbrev pub ends_with : Region → ℕ → Option Ends
ends_with r l = ends_in r.first r.second l

-- the key's place is one of the region
abbrev pub is_own_key : Bands → ℕ → Key → Bool
is_own_key b id k = owner_of b k.place.0 == id

-- each entry is marked as own where its place is one of the region
abbrev pub AreMarked : Bands → ℕ → List Entry → Type 0
AreMarked b id [] = ⊤
AreMarked b id (e ∷ es) = (e.own ≡ is_own_key b id (entry_key e)) × AreMarked b id es

-- the own places are those of the range, and the events there are told to no region but the two neighbours
pub record IsSited (b : Bands) (id : ℕ) (range : PlaceRange) (first second : Option SideView) : Type 0 where
  pub own : IsRangeOf b id range
  pub near : (l p : ℕ) → owner_of b p ≡ id → is_told b l p ≡ true → (is_other first l ≡ true) ⊎ (is_other second l ≡ true)
  -- and it is told of no other's events
  pub from : (p : ℕ) → is_told b id p ≡ true → (is_other first (owner_of b p) ≡ true) ⊎ (is_other second (owner_of b p) ≡ true)
  pub below : (l : ℕ) → (is_other first l ≡ true) ⊎ (is_other second l ≡ true) → l < b.count
  pub apart : (l : ℕ) → is_other first l ≡ true → is_other second l ≡ false
  pub not_first : is_other first id ≡ false
  pub not_second : is_other second id ≡ false

-- A region of the simulation over its base.
pub record IsRegion (n : Network) (b : Bands) (until : ℕ) (x : Base) (r : Region) : Type 0 where
  pub floor : r.floor ≡ x.floor
  pub cut : IsCut b
  pub lattice : b.lattice ≡ n.lattice
  pub short : until ≤ 10 ^ 15
  pub inside : r.id < b.count
  pub sited : IsSited b r.id r.board.range r.first r.second
  -- with another region there is something to undo
  pub alone : r.board.undoable ≡ false → b.count ≤ 1
  pub two : length r.stacks.stacks ≡ 2
  pub board : IsBoard n x.cells x.past x.surface x.floor r.board
  pub marked : AreMarked b r.id r.board.timeline.entries
  pub past : AllKeys (λ k. k is_below x.floor) x.past
  -- no own place offers anything below the floor
  pub fresh : (p : ℕ) (e : Event) → next n x.surface.sites p ≡ Some e → owner_of b p ≡ r.id → x.floor is_upto key_of e
  -- the part is sound for the base
  pub sound : IsSound (world_at n b until x) x.surface.sites x.floor r.id (part_of r)
  -- each stack has events that its sender may put
  pub puts : (l : ℕ) → ArePutsOf (world_at n b until x) l r.id (stack_in r.first r.second r.stacks l)
  pub from_first : AllKeys (λ k. is_other r.first (owner_of b k.place.0) ≡ true) (stack_of r.stacks 0)
  pub from_second : AllKeys (λ k. is_other r.second (owner_of b k.place.0) ≡ true) (stack_of r.stacks 1)
