-- The rings between the regions of a crew, as they are made.
use Rattle.std.specs.Prelude.{◌≡◌, ◌≢◌, ℕ, ◌<◌, ◌≤◌, List, [], length, Option, Some, None, slice_get, slice_index_or}
use Rattle.plan.specs.Network.{Network}
use Rattle.regions.specs.Bands.{Bands}
use Rattle.regions.specs.Neighbours.{IsNeighbour}
use Rattle.surface_state.specs.SurfaceView.{SurfaceView}
use Rattle.region_run.specs.declared.region.Region.{Region}
use Rattle.region_run.specs.declared.side.Ends.{Ends}
use Rattle.region_run.specs.Regions.{Base, ends_with, IsRegion}
use Rattle.region_run.specs.Starts.{IsFirst}
use Rattle.region_run.specs.Turns.{IsAttached}
use Rattle.region_run.specs.Channels.{AreTied}
use Rattle.crew.specs.Crews.{ends_of}
use Rattle.crew.specs.Rounds.{IsFirstRegion}

-- Ends of new rings with so many slots each: nothing went through them.
pub record AreNewEnds (slots : ℕ) (e : Ends) : Type 0 where
  pub out_slots : e.out.slots ≡ slots
  pub in_slots : e.inn.slots ≡ slots
  pub sent : e.out.sent ≡ []
  pub received : e.inn.received ≡ []

abbrev pub HasNewEnds : ℕ → Option Ends → Type 0
HasNewEnds slots None = ⊥
HasNewEnds slots (Some e) = AreNewEnds slots e

-- The region was given ends of new rings with another one, and is a region as before.
pub record IsJoined (slots other : ℕ) (e : Ends) (old new : Region) : Type 0 where
  pub ends : AreNewEnds slots e
  pub attached : IsAttached other e old new
  pub region : (n : Network) (b : Bands) (until : ℕ) (x : Base) → IsRegion n b until x old → IsRegion n b until x new

-- Two regions between which there are no rings.
pub record AreUnjoined (r s : Region) : Type 0 where
  pub apart : r.id ≢ s.id
  pub first : ends_with r s.id ≡ None
  pub second : ends_with s r.id ≡ None

-- Two regions were given the ends of two new rings, one each way.
pub record AreJoined (slots : ℕ) (r s r' s' : Region) : Type 0 where
  pub ends1 : Ends
  pub ends2 : Ends
  pub first : IsJoined slots s.id ends1 r r'
  pub second : IsJoined slots r.id ends2 s s'
  pub ties : AreTied (Some ends1) (Some ends2)

-- Of the regions two were joined.
pub record ArePairJoined (slots i j : ℕ) (rs rs' : List Region) : Type 0 where
  pub len : length rs' ≡ length rs
  pub others : (k : ℕ) (d : Region) → k ≢ i → k ≢ j → slice_index_or rs' k d ≡ slice_index_or rs k d
  pub joined : (d : Region) → AreJoined slots (slice_index_or rs i d) (slice_index_or rs j d) (slice_index_or rs' i d) (slice_index_or rs' j d)

-- The region and another one, if that has a greater number, may be joined.
abbrev pub MayJoin : ℕ → Option ℕ → List Region → Type 0
MayJoin i other rs = (j : ℕ) → other ≡ Some j → i < j → (j < length rs) × ((d : Region) → AreUnjoined (slice_index_or rs i d) (slice_index_or rs j d))

-- They were joined, if there is one.
pub record IsJoinedAbove (slots i : ℕ) (other : Option ℕ) (rs rs' : List Region) : Type 0 where
  pub pair : (j : ℕ) → other ≡ Some j → i < j → ArePairJoined slots i j rs rs'
  pub none : ((j : ℕ) → other ≡ Some j → i < j → ⊥) → rs' ≡ rs

-- What is at its start stays so.
pub record StayFirst (rs rs' : List Region) : Type 0 where
  pub each : (n : Network) (b : Bands) (start : SurfaceView) → ((i : ℕ) (r : Region) → slice_get rs i ≡ Some r → IsFirstRegion n b i start r)
      → (i : ℕ) (r : Region) → slice_get rs' i ≡ Some r → IsFirstRegion n b i start r

-- From region i to region j and back lead new rings.
pub record HaveNewRings (slots : ℕ) (rs : List Region) (i j : ℕ) : Type 0 where
  pub there : HasNewEnds slots (ends_of rs i j)
  pub back : HasNewEnds slots (ends_of rs j i)

-- The regions below number k have their rings with those after them, and the others have none yet.
pub record AreJoinedBelow (b : Bands) (slots k : ℕ) (rs : List Region) : Type 0 where
  pub count : length rs ≡ b.count
  pub numbers : (i : ℕ) (r : Region) → slice_get rs i ≡ Some r → r.id ≡ i
  pub ties : (i j : ℕ) → i ≢ j → AreTied (ends_of rs i j) (ends_of rs j i)
  pub rings : (i j : ℕ) → i < k → i < j → IsNeighbour b i j → HaveNewRings slots rs i j
  pub apart : (i j : ℕ) → k ≤ i → i < j → (ends_of rs i j ≡ None) × (ends_of rs j i ≡ None)

-- Every two neighbours have new rings.
pub record AreRinged (b : Bands) (slots : ℕ) (rs : List Region) : Type 0 where
  pub each : (i j : ℕ) → i < b.count → IsNeighbour b i j → HaveNewRings slots rs i j

-- So many regions, each as it is made, without rings.
pub record AreMade (n : Network) (b : Bands) (start : SurfaceView) (k : ℕ) (rs : List Region) : Type 0 where
  pub count : length rs ≡ k
  pub each : (i : ℕ) (r : Region) → slice_get rs i ≡ Some r → IsFirst n b i start r
