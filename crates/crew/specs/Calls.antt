-- What calls on the regions of a crew need, and what they leave.
use Rattle.std.specs.Prelude.{◌≡◌, ◌≢◌, ◌⊎◌, ℕ, ◌+◌, ◌*◌, ◌<◌, Bool, true, false, not, List, [], length, All, Option, Some, slice_get, slice_index_or, Result, OnOk, IsPermutation, if◌then◌else◌}
use Rattle.surf_kinds.specs.declared.status.NoMemory.{NoMemory}
use Rattle.surf_kinds.specs.declared.event.Event.{Event}
use Rattle.surf_kinds.specs.declared.event.Key.{Key}
use Rattle.surf_kinds.specs.Keys.{keep, below, RiseStrictly, ◌is_upto◌}
use Rattle.plan.specs.Network.{Network}
use Rattle.regions.specs.Bands.{Bands}
use Rattle.ordered_commit.specs.Merge.{all_events}
use Rattle.region_run.specs.declared.region.Region.{Region}
use Rattle.region_run.specs.declared.totals.Turn.{Turn}
use Rattle.region_run.specs.Sides.{received_by}
use Rattle.region_run.specs.Regions.{Base, part_of, line_to, ends_with, is_own_key, IsRegion}
use Rattle.region_run.specs.Runs.{StepsOn, SameRings, HasSpare, IsCommitted}
use Rattle.region_run.specs.Counts.{with_work, with_turn, with_forgotten}
use Rattle.region_run.specs.Channels.{AreTied}
use Rattle.region_run.specs.Turns.{IsTurn}
use Rattle.region_run.specs.Deliveries.{IsSame, IsDelivery, IsNoDelivery, ArePaired, HasLooked}
use Rattle.crew.specs.Crews.{ends_of}

-- A call on one of the regions.
pub record ChangesOne (P : Region → Region → Type 0) (rs : List Region) (i : ℕ) (rs' : List Region) : Type 0 where
  pub len : length rs' ≡ length rs
  pub others : (k : ℕ) (d : Region) → k ≢ i → slice_index_or rs' k d ≡ slice_index_or rs k d
  pub it : (d : Region) → P (slice_index_or rs i d) (slice_index_or rs' i d)

-- A call on two of them.
pub record ChangesTwo (P : Region → Region → Region → Region → Type 0) (rs : List Region) (j i : ℕ) (rs' : List Region) : Type 0 where
  pub len : length rs' ≡ length rs
  pub others : (k : ℕ) (d : Region) → k ≢ j → k ≢ i → slice_index_or rs' k d ≡ slice_index_or rs k d
  pub they : (d : Region) → P (slice_index_or rs j d) (slice_index_or rs i d) (slice_index_or rs' j d) (slice_index_or rs' i d)

-- A call on each of them.
pub record ChangesEach (P : Region → Region → Type 0) (rs rs' : List Region) : Type 0 where
  pub len : length rs' ≡ length rs
  pub each : (i : ℕ) (d : Region) → i < length rs → P (slice_index_or rs i d) (slice_index_or rs' i d)

-- only the room is another
pub record HasRoomMade (old new : Region) : Type 0 where
  pub same : IsSame old new
  pub totals : new.totals ≡ old.totals

pub record MakesRoom (quota : ℕ) (result : Result (Unit {0}) NoMemory) (old new : Region) : Type 0 where
  pub made : HasRoomMade old new
  pub ok : OnOk result (HasSpare (2 * quota) new)

-- It is a region of the simulation over some base.
pub record MayStepOne (n : Network) (b : Bands) (until : ℕ) (r : Region) : Type 0 where
  pub base : Base
  pub region : IsRegion n b until base r
  pub spare : HasSpare 1 r

pub record HasStepped (n : Network) (b : Bands) (until : ℕ) (old new : Region) : Type 0 where
  pub answer : Bool
  pub steps : (x : Base) → IsRegion n b until x old → StepsOn n b until x old answer new
  pub rings : SameRings old new
  pub totals : new.totals ≡ (if answer then with_work old.totals 1 0 else old.totals)

-- The first message of the channel from one to the other may be delivered.
pub record MayDeliver (n : Network) (b : Bands) (from to : Region) : Type 0 where
  pub until : ℕ
  pub base : Base
  pub region : IsRegion n b until base to
  pub apart : from.id ≢ to.id
  pub sender : from.id < b.count
  pub ties : AreTied (ends_with from to.id) (ends_with to from.id)
  pub spare : HasSpare 1 to

pub record Delivers (n : Network) (b : Bands) (done : Bool) (from to : Region) (from' to' : Region) : Type 0 where
  pub none : done ≡ false → IsNoDelivery from to from' to'
  pub one : done ≡ true → (until : ℕ) (x : Base) → IsRegion n b until x to → IsDelivery n b until x from to from' to'
  pub sender_totals : from'.totals ≡ from.totals
  pub no_totals : done ≡ false → to'.totals ≡ to.totals
  pub totals : done ≡ true → (cut : ℕ) × (to'.totals ≡ with_work to.totals 0 cut) × (cut + length (part_of to').timeline ≡ length (part_of to).timeline)

-- It may make a turn.
pub record MayTurn (n : Network) (b : Bands) (until : ℕ) (quota : ℕ) (r : Region) : Type 0 where
  pub base : Base
  pub region : IsRegion n b until base r
  pub spare : HasSpare (2 * quota) r

pub record HasTurned (n : Network) (b : Bands) (until : ℕ) (quota : ℕ) (old new : Region) : Type 0 where
  pub answer : Turn
  pub turn : (x : Base) → IsRegion n b until x old → IsTurn n b until x quota old new answer
  pub totals : new.totals ≡ with_turn old.totals answer

-- The rings between two regions may be looked at.
pub record MayLook (one other : Region) : Type 0 where
  pub apart : one.id ≢ other.id
  pub rings : ArePaired (ends_with one other.id) (ends_with other one.id)

pub record LooksAt (one other one' other' : Region) : Type 0 where
  pub first : HasLooked other.id one one'
  pub second : HasLooked one.id other other'
  pub ties : AreTied (ends_with one' other'.id) (ends_with other' one'.id)
  pub first_totals : one'.totals ≡ one.totals
  pub second_totals : other'.totals ≡ other.totals

-- what looks at the rings leave of a region
pub record IsSeen (old new : Region) : Type 0 where
  pub id : new.id ≡ old.id
  pub part : part_of new ≡ part_of old
  pub line : (l : ℕ) → line_to new l ≡ line_to old l
  pub got : (l : ℕ) → received_by (ends_with new l) ≡ received_by (ends_with old l)
  pub region : (n : Network) (b : Bands) (until : ℕ) (x : Base) → IsRegion n b until x old → IsRegion n b until x new
  pub totals : new.totals ≡ old.totals

-- Between two regions a ring leads each way, or none does; those between regions below i, and between i and those below j, were looked at.
pub record AreLookedAt (i j : ℕ) (rs : List Region) : Type 0 where
  pub id : (k : ℕ) (r : Region) → slice_get rs k ≡ Some r → r.id ≡ k
  pub rings : (a b : ℕ) → a ≢ b → ArePaired (ends_of rs a b) (ends_of rs b a)
  pub ties : (a b : ℕ) → a < b → (b < i) ⊎ ((b ≡ i) × (a < j)) → AreTied (ends_of rs a b) (ends_of rs b a)

-- the own events below a key
pub record IsOwnBelow (key : Key) (r : Region) (es : List Event) : Type 0 where
  pub is : (n : Network) (b : Bands) (until : ℕ) (x : Base) → IsRegion n b until x r → es ≡ keep (is_own_key b r.id) (below key (part_of r).timeline)

-- those of the first n regions
pub record AreOwnBelow (key : Key) (rs : List Region) (n : ℕ) (lists : List (List Event)) : Type 0 where
  pub len : length lists ≡ n
  pub each : (i : ℕ) (d : Region) → i < n → IsOwnBelow key (slice_index_or rs i d) (slice_index_or lists i [])

-- all own events below a key, in order
pub record IsGathered (key : Key) (rs : List Region) (events : List Event) : Type 0 where
  pub lists : List (List Event)
  pub own : AreOwnBelow key rs (length rs) lists
  pub all : IsPermutation (all_events lists) events
  pub order : RiseStrictly events

-- The entries below a key may be asked for and forgotten.
pub record MayForget (key : Key) (r : Region) : Type 0 where
  pub network : Network
  pub bands : Bands
  pub until : ℕ
  pub base : Base
  pub region : IsRegion network bands until base r
  pub late : base.floor is_upto key
  pub early : key is_upto r.clock

-- the region, but for what it forgot
pub record Forgets (key : Key) (old new : Region) : Type 0 where
  pub same : new ≡ record old { board = new.board; floor = key; stacks = new.stacks; totals = new.totals }
  pub committed : (n : Network) (b : Bands) (until : ℕ) (x : Base) → IsRegion n b until x old → x.floor is_upto key → key is_upto old.clock → IsCommitted n b until x key old new
  pub totals : (received : ℕ) × (new.totals ≡ with_forgotten old.totals received)
      × ((n : Network) (b : Bands) (until : ℕ) (x : Base) → IsRegion n b until x old → received ≡ length (keep (λ k. not (is_own_key b old.id k)) (below key (part_of old).timeline)))

-- a key that is at most the clock
pub record IsUptoClock (key : Key) (r : Region) : Type 0 where
  pub is : key is_upto r.clock

pub record IsClockOf (key : Key) (r : Region) : Type 0 where
  pub is : key ≡ r.clock
