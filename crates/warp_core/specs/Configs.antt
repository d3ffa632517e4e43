-- What is seen of a configuration in the code, and what ties it to a network and a setting.
use Rattle.std.specs.Prelude.{ℕ, ◌≡◌, ◌≢◌, ◌+◌, ◌^◌, ◌<◌, ◌≤◌, ◌⊎◌, List, [], ◌∷◌, map, length, slice_index_or, slice_get, Result, Ok, Err}
use Rattle.std.specs.Option.{option_map_or}
use Rattle.surf_kinds.specs.declared.status.NoMemory.{NoMemory}
use Rattle.surf_kinds.specs.declared.event.Event.{Event}
use Rattle.surf_kinds.specs.declared.site.SiteState.{SiteState}
use Rattle.surf_kinds.specs.declared.event.Key.{Key}
use Rattle.surf_kinds.specs.Keys.{origin, AllKeys, ◌is_below◌}
use Rattle.border.specs.declared.op.Op.{Op}
use Rattle.plan.specs.Network.{Network}
use Rattle.surface_state.specs.SurfaceView.{SurfaceView}
use Rattle.regions.specs.Bands.{Bands, IsCut}
use Rattle.warp_core.specs.World.{World, Agree, after_all}
use Rattle.warp_core.specs.Simulation.{Setting, world_in}
use Rattle.warp_core.specs.Parts.{Part}
use Rattle.warp_core.specs.Cores.{Core, IsConsistent}
use Rattle.warp_core.specs.Steps.{StepOf}
use Rattle.warp_core.specs.Grounds.{IsGround}
use Rattle.warp_core.specs.Regions.{part_of, outbox_of, IsSized}
use Rattle.warp_core.specs.declared.region.Region.{Region}
use Rattle.warp_core.specs.declared.config.Config.{Config}
use Rattle.warp_core.specs.declared.step.Step.{Step}
use Rattle.warp_core.specs.declared.step.Step.TheVariants.{Fire, Pass, Take, Commit}
use Rattle.warp_core.specs.declared.step.Did.{Did}
use Rattle.warp_core.specs.declared.step.Did.TheVariants.{Done, NotNow}

abbrev pub parts_at : List Region → ℕ → Part
parts_at rs k = option_map_or part_of (slice_get rs k) (record { timeline = []; clock = origin; stack = λ _. [] })

abbrev pub outboxes_at : List Region → ℕ → ℕ → List Op
outboxes_at rs j l = option_map_or (λ r. outbox_of r l) (slice_get rs j) []

abbrev pub core_with : Key → List Event → List Region → Core
core_with horizon committed rs = record { horizon = horizon; committed = committed; part = parts_at rs; channel = outboxes_at rs }

-- the configuration of the core: its channels are the outboxes of the senders
abbrev pub core_of : Config → Core
core_of c = core_with c.horizon c.committed.items c.regions.items

abbrev pub region_count : Config → ℕ
region_count c = length c.regions.items

-- The surface of region i stands on a ground: on a base that agrees with the surface after the committed events, as far as the region sees.
pub record IsHome (n : Network) (s : Setting) (horizon : Key) (committed : List Event) (i : ℕ) (r : Region) : Type 0 where
  pub past : List Event
  pub base : SurfaceView
  pub ground : IsGround n s.cells past base r.timeline.entries r.surface
  pub early : AllKeys (λ k. k is_below horizon) past
  pub agree : Agree (world_in n s) i base.sites (after_all (world_in n s) (world_in n s).start committed)
  pub sized : IsSized s.bands.count r

abbrev pub AreHomes : Network → Setting → Key → List Event → List Region → Type 0
AreHomes n s horizon committed rs = (i : ℕ) (d : Region) → i < s.bands.count → IsHome n s horizon committed i (slice_index_or rs i d)

-- The cut is one of the network's lattice, and the duration within the limit.
pub record IsSetting (n : Network) (s : Setting) : Type 0 where
  pub cut : IsCut s.bands
  pub lattice : s.bands.lattice ≡ n.lattice
  pub short : s.until ≤ 10 ^ 15

-- The configuration was made for this network and this setting: it is consistent, and each region's surface stands on its ground.
pub record IsConfigOf (n : Network) (s : Setting) (c : Config) : Type 0 where
  pub setting : IsSetting n s
  pub bands : c.cut ≡ s.bands
  pub until : c.until ≡ s.until
  pub count : length c.regions.items ≡ s.bands.count
  pub consistent : IsConsistent (world_in n s) (core_of c)
  pub homes : AreHomes n s c.horizon c.committed.items c.regions.items

-- the step names regions that exist; a message is taken from another region
abbrev pub NamesRegions : ℕ → Step → Type 0
NamesRegions count (Fire i) = i < count
NamesRegions count (Pass i) = i < count
NamesRegions count (Take j i) = (j < count) × (i < count) × (j ≢ i)
NamesRegions count (Commit k) = Unit {0}

-- What a call of `step` makes of old: Done is the step, NotNow and want of memory leave it as it is, and NotNow comes only where the step's condition is false.
abbrev pub Makes : World → Core → Step → Result Did NoMemory → Core → Type 0
Makes w old step (Ok Done) new = StepOf w old step new
Makes w old step (Ok NotNow) new = (new ≡ old) × ((any : Core) → StepOf w old step any → ⊥)
Makes w old step (Err e) new = new ≡ old

-- a site that no event has rewritten
abbrev pub IsFresh : SiteState → Type 0
IsFresh x = (x.version ≡ 0) × (x.last ≡ 0)

-- what a configuration over a first surface is set up with
abbrev pub setting_of : Bands → ℕ → SurfaceView → Setting
setting_of b until start = record { bands = b; until = until; cells = map (λ x. x.species) start.sites }

-- These steps were tried from old, one after the other: each was made where its condition holds, n of them, and left out where it doesn't.
abbrev pub Tries : World → Core → List Step → ℕ → Core → Type 0
Tries w old [] n new = (new ≡ old) × (n ≡ 0)
Tries w old (step ∷ steps) n new =
    ((mid : Core) × (m : ℕ) × StepOf w old step mid × (n ≡ m + 1) × Tries w mid steps m new)
    ⊎ (((any : Core) → StepOf w old step any → ⊥) × Tries w old steps n new)
