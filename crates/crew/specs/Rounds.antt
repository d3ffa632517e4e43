-- What becomes of a crew: its start, turns, deliveries, steps and commits.
use Rattle.std.specs.Prelude.{◌⊎◌, ◌≡◌, ◌≢◌, ℕ, ◌^◌, ◌<◌, ◌≤◌, ◌++◌, List, [], ◌∷◌, length, Option, Some, None, Bool, true, false, slice_get, slice_index_or}
use Rattle.surf_kinds.specs.declared.event.Event.{Event}
use Rattle.surf_kinds.specs.declared.event.Key.{Key}
use Rattle.surf_kinds.specs.Keys.{origin, keep, below, ◌is_upto◌}
use Rattle.lattice.specs.Surface.{first_surface}
use Rattle.surface_state.specs.SurfaceView.{SurfaceView}
use Rattle.plan.specs.Network.{Network}
use Rattle.regions.specs.Bands.{Bands, IsCut}
use Rattle.border.specs.declared.op.Op.{Op}
use Rattle.warp_core.specs.Parts.{PartStep, run_takes}
use Rattle.region_run.specs.declared.region.Region.{Region}
use Rattle.region_run.specs.declared.totals.Turn.{Turn}
use Rattle.region_run.specs.Sides.{received_by, raised}
use Rattle.region_run.specs.Regions.{Base, part_of, line_to, ends_with, is_own_key, IsRegion}
use Rattle.region_run.specs.Runs.{MakesStep, MakesRun, IsCommitted}
use Rattle.region_run.specs.Starts.{first_base, no_totals}
use Rattle.region_run.specs.Channels.{AreTied, channel}
use Rattle.crew.specs.Crews.{CrewView, species_of, base_at, ends_of}

-- A region at its start, with the ends of its rings.
pub record IsFirstRegion (n : Network) (b : Bands) (i : ℕ) (start : SurfaceView) (r : Region) : Type 0 where
  pub id : r.id ≡ i
  pub timeline : (part_of r).timeline ≡ []
  pub clock : (part_of r).clock ≡ origin
  pub stack : (l : ℕ) → (part_of r).stack l ≡ []
  pub line : (l : ℕ) → line_to r l ≡ []
  pub totals : r.totals ≡ no_totals
  pub region : (until : ℕ) → until ≤ 10 ^ 15 → IsRegion n b until (first_base start) r

-- The regions at their start: none made a step, and nothing is in any channel.
pub record AreFirstRegions (n : Network) (b : Bands) (start : SurfaceView) (rs : List Region) : Type 0 where
  pub count : length rs ≡ b.count
  pub each : (i : ℕ) (r : Region) → slice_get rs i ≡ Some r → IsFirstRegion n b i start r
  pub ties : (i j : ℕ) → i ≢ j → AreTied (ends_of rs i j) (ends_of rs j i)

-- A crew at its start.
pub record AreFirst (v : CrewView) : Type 0 where
  pub horizon : v.horizon ≡ origin
  pub fresh : v.start.sites ≡ first_surface (species_of v.start)
  pub cut : IsCut v.bands
  pub lattice : v.bands.lattice ≡ v.network.lattice
  pub short : v.until ≤ 10 ^ 15
  pub regions : AreFirstRegions v.network v.bands v.start v.regions

-- From old to new the region made these steps, and its rings handed out what it took.
pub record Worked (n : Network) (b : Bands) (until : ℕ) (x : Base) (old new : Region) : Type 0 where
  pub steps : List PartStep
  pub run : MakesRun n b until x old steps new
  pub received : (l : ℕ) → received_by (ends_with new l) ≡ received_by (ends_with old l) ++ run_takes steps l

-- All regions worked, and then the rings between them were looked at.
pub record AllWorked (v : CrewView) (past : ℕ → List Event) (base : ℕ → SurfaceView) (rs' : List Region) : Type 0 where
  pub len : length rs' ≡ length v.regions
  pub each : (i : ℕ) (r t : Region) → slice_get v.regions i ≡ Some r → slice_get rs' i ≡ Some t → Worked v.network v.bands v.until (base_at v past base i) r t
  pub ties : (i j : ℕ) → i ≢ j → AreTied (ends_of rs' i j) (ends_of rs' j i)

-- From old to new the region made one step, and its rings are as they were.
pub record Stepped (n : Network) (b : Bands) (until : ℕ) (x : Base) (old : Region) (step : PartStep) (new : Region) : Type 0 where
  pub made : MakesStep n b until x old step new
  pub ends : (l : ℕ) → ends_with new l ≡ ends_with old l

-- One of the regions is another.
pub record IsOne (rs rs' : List Region) (i : ℕ) (r t : Region) : Type 0 where
  pub len : length rs' ≡ length rs
  pub old_at : slice_get rs i ≡ Some r
  pub new_at : slice_get rs' i ≡ Some t
  pub others : (k : ℕ) → k ≢ i → slice_get rs' k ≡ slice_get rs k

-- Two of the regions are others.
pub record IsTwo (rs rs' : List Region) (j i : ℕ) (f t f' t' : Region) : Type 0 where
  pub apart : j ≢ i
  pub len : length rs' ≡ length rs
  pub old_from : slice_get rs j ≡ Some f
  pub old_to : slice_get rs i ≡ Some t
  pub new_from : slice_get rs' j ≡ Some f'
  pub new_to : slice_get rs' i ≡ Some t'
  pub others : (k : ℕ) → k ≢ j → k ≢ i → slice_get rs' k ≡ slice_get rs k

-- All regions forgot the entries below a key, and their floors are there.
pub record AllCommitted (v : CrewView) (past : ℕ → List Event) (base : ℕ → SurfaceView) (k : Key) (rs' : List Region) : Type 0 where
  pub len : length rs' ≡ length v.regions
  pub each : (i : ℕ) (r t : Region) → slice_get v.regions i ≡ Some r → slice_get rs' i ≡ Some t → IsCommitted v.network v.bands v.until (base_at v past base i) k r t
  pub id : (i : ℕ) (r t : Region) → slice_get v.regions i ≡ Some r → slice_get rs' i ≡ Some t → t.id ≡ r.id
  pub line : (i : ℕ) (r t : Region) → slice_get v.regions i ≡ Some r → slice_get rs' i ≡ Some t → (l : ℕ) → line_to t l ≡ line_to r l
  pub ends : (i : ℕ) (r t : Region) → slice_get v.regions i ≡ Some r → slice_get rs' i ≡ Some t → (l : ℕ) → ends_with t l ≡ ends_with r l

-- A list for each region: its own events below a key.
pub record AreOwnLists (v : CrewView) (k : Key) (lists : List (List Event)) : Type 0 where
  pub len : length lists ≡ v.bands.count
  pub each : (i : ℕ) (r : Region) → slice_get v.regions i ≡ Some r → slice_index_or lists i [] ≡ keep (is_own_key v.bands r.id) (below k (part_of r).timeline)

-- The least of the clocks of all regions.
pub record IsLeastOf (rs : List Region) (k : Key) : Type 0 where
  pub least : (i : ℕ) (r : Region) → slice_get rs i ≡ Some r → k is_upto r.clock
  pub some : (i : ℕ) × (r : Region) × (slice_get rs i ≡ Some r) × (k ≡ r.clock)

-- A turn by its numbers: as many entries were added as the quota, or fewer since nothing was left; and without a message none was cut.
pub record IsWhole (quota : ℕ) (t : Turn) : Type 0 where
  pub added : (t.added ≡ quota) ⊎ ((t.empty ≡ true) × (t.added < quota))
  pub uncut : t.taken ≡ 0 → t.cut ≡ 0

-- Each region made one turn more, and it was a whole one.
pub record HaveWorked (quota : ℕ) (rs rs' : List Region) : Type 0 where
  pub len : length rs' ≡ length rs
  pub turns : (i : ℕ) (r t : Region) → slice_get rs i ≡ Some r → slice_get rs' i ≡ Some t → t.totals.turns ≡ raised r.totals.turns 1
  pub whole : (i : ℕ) (t : Region) → slice_get rs' i ≡ Some t → IsWhole quota t.totals.last_turn
