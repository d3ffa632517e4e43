-- A crew, as a configuration of the core.
use Rattle.std.proofs.Common.{ap}
use Rattle.std.proofs.lemmas.Bool.{eq-eqb}
use Rattle.std.specs.Prelude.{refl, ◌+◌, ◌≡◌, ◌≢◌, ◌^◌, ℕ, ◌<◌, false, ◌≤◌, ◌==◌, List, [], ◌++◌, length, drop, map, Option, Some, None, slice_get, if◌then◌else◌}
use Rattle.surf_kinds.specs.declared.event.Event.{Event}
use Rattle.surf_kinds.specs.declared.event.Key.{Key}
use Rattle.surf_kinds.specs.declared.site.SpeciesId.{SpeciesId}
use Rattle.surf_kinds.specs.declared.site.SiteState.{SiteState}
use Rattle.surf_kinds.specs.Keys.{origin, below}
use Rattle.lattice.specs.Surface.{first_surface}
use Rattle.surface_state.specs.SurfaceView.{SurfaceView}
use Rattle.plan.specs.Network.{Network}
use Rattle.regions.specs.Bands.{Bands, IsCut}
use Rattle.border.specs.declared.op.Op.{Op}
use Rattle.warp_core.specs.World.{World, Agree, after_all, end_key}
use Rattle.warp_core.specs.Simulation.{world_of}
use Rattle.warp_core.specs.Parts.{Part}
use Rattle.warp_core.specs.Cores.{Core, IsConsistent}
use Rattle.region_run.specs.declared.region.Region.{Region}
use Rattle.region_run.specs.declared.side.Ends.{Ends}
use Rattle.region_run.specs.declared.totals.Turn.{Turn}
use Rattle.region_run.specs.Sides.{received_by, raised}
use Rattle.region_run.specs.Regions.{Base, part_of, line_to, ends_with, IsRegion}
use Rattle.region_run.specs.Channels.{AreTied}
use Rattle.crew.specs.Balances.{AreBalanced}

-- What a crew is made of: what `new` was given, the horizon, how many rounds were made and events handed out, and the regions.
pub record CrewView : Type 0 where
  pub network : Network
  pub bands : Bands
  pub start : SurfaceView
  pub until : ℕ
  pub quota : ℕ
  pub slots : ℕ
  pub horizon : Key
  pub rounds : ℕ
  pub committed : ℕ
  pub regions : List Region

abbrev pub species_of : SurfaceView → List SpeciesId
species_of s = map (λ (x : SiteState). x.species) s.sites

-- the simulation of a crew
abbrev pub world_in : CrewView → World
world_in v = world_of v.network v.bands v.until (first_surface (species_of v.start))

-- The regions by their numbers: their parts, what each put for each other one, and the ends of the rings between them.

abbrev pub part_if : Option Region → Part
part_if None = record { timeline = []; clock = origin; stack = λ _. [] }
part_if (Some r) = part_of r

abbrev pub line_if : Option Region → ℕ → List Op
line_if None l = []
line_if (Some r) l = line_to r l

abbrev pub ends_if : Option Region → ℕ → Option Ends
ends_if None l = None
ends_if (Some r) l = ends_with r l

abbrev pub parts_of : List Region → ℕ → Part
parts_of rs i = part_if (slice_get rs i)

abbrev pub lines_of : List Region → ℕ → ℕ → List Op
lines_of rs i l = line_if (slice_get rs i) l

abbrev pub ends_of : List Region → ℕ → ℕ → Option Ends
ends_of rs i l = ends_if (slice_get rs i) l

-- what region i received from region l
abbrev pub got_of : List Region → ℕ → ℕ → List Op
got_of rs i l = received_by (ends_of rs i l)

-- Parts, what each put for each other one, and what each received, at a horizon: what is in a channel was put and not yet received.
abbrev pub core_from : World → Key → (ℕ → Part) → (ℕ → ℕ → List Op) → (ℕ → ℕ → List Op) → Core
core_from w horizon parts lines got =
    record {
      horizon = horizon;
      committed = below horizon w.history;
      part = parts;
      channel = λ j i. if j == i then [] else drop (length (got i j)) (lines j i);
    }

-- the configuration that a crew is
abbrev pub core_in : CrewView → Core
core_in v = core_from (world_in v) v.horizon (parts_of v.regions) (lines_of v.regions) (got_of v.regions)

-- what region i stands on: what no field of it has is given
abbrev pub base_at : CrewView → (ℕ → List Event) → (ℕ → SurfaceView) → ℕ → Base
base_at v past base i = record { cells = species_of v.start; past = past i; surface = base i; floor = v.horizon }

-- What every crew keeps to, with the events that each region forgot and the surface after them.
pub record IsCrew (v : CrewView) (past : ℕ → List Event) (base : ℕ → SurfaceView) : Type 0 where
  pub count : length v.regions ≡ v.bands.count
  pub cut : IsCut v.bands
  pub lattice : v.bands.lattice ≡ v.network.lattice
  pub short : v.until ≤ 10 ^ 15
  -- each region is one, over a base that agrees with the surface after the committed events as far as it sees
  pub region : (i : ℕ) (r : Region) → slice_get v.regions i ≡ Some r → IsRegion v.network v.bands v.until (base_at v past base i) r × (r.id ≡ i)
  pub agree : (i : ℕ) → i < v.bands.count → Agree (world_in v) i (base i).sites (after_all (world_in v) (world_in v).start (below v.horizon (world_in v).history))
  -- between two regions a ring leads each way, or none does
  pub ties : (i j : ℕ) → i ≢ j → AreTied (ends_of v.regions i j) (ends_of v.regions j i)

-- no channel leads from a region to itself
pub no_own_channel : (v : CrewView) (i : ℕ) → (core_in v).channel i i ≡ []
no_own_channel v i = ap (λ t. if t then [] else drop (length (got_of v.regions i i)) (lines_of v.regions i i)) (eq-eqb i i refl)

-- how many turns a region made, and what the last one did
abbrev pub turns_of : Region → ℕ × Turn
turns_of r = (r.totals.turns, r.totals.last_turn)

-- What settling leaves as it was: all that a crew is made of but its regions, and the turns of these.
abbrev pub rest_of : CrewView → CrewView × List (ℕ × Turn)
rest_of v = (record v { regions = [] }, map turns_of v.regions)

-- region i is told of no event of region j
abbrev pub IsUntold : World → ℕ → ℕ → Type 0
IsUntold w j i = (p : ℕ) → w.owner p ≡ j → w.told i p ≡ false

-- Nothing is on its way to a region that is told of none of the sender's events.
abbrev pub AreUntoldEmpty : World → Core → Type 0
AreUntoldEmpty w c = (j i : ℕ) → j < w.regions → i < w.regions → IsUntold w j i → c.channel j i ≡ []

-- the channel from region j to another one, if that is given, is empty
abbrev pub ToEmpty : ℕ → Option ℕ → Core → Type 0
ToEmpty j to c = (i : ℕ) → to ≡ Some i → c.channel j i ≡ []

-- What a crew keeps to between its calls.
pub record IsReady (v : CrewView) : Type 0 where
  pub past : ℕ → List Event
  pub base : ℕ → SurfaceView
  pub crew : IsCrew v past base
  pub consistent : IsConsistent (world_in v) (core_in v)
  pub untold : AreUntoldEmpty (world_in v) (core_in v)
  pub at_least : 1 ≤ v.quota
  pub at_most : v.quota ≤ 65536
  -- each round but the last hands out an event at least
  pub few : v.rounds ≤ v.committed + 1
  pub fewer : (v.horizon ≡ end_key (world_in v) → ⊥) → v.rounds ≤ v.committed
  -- the events below the horizon were handed out, and each was one own entry that its region forgot
  pub handed_out : v.committed ≡ raised 0 (length (below v.horizon (world_in v).history))
  pub balanced : AreBalanced v.regions (length (below v.horizon (world_in v).history))
