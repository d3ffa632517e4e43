-- What becomes of two regions when a message goes from one to the other, or the rings between them are looked at.
use Rattle.std.specs.Prelude.{◌≡◌, ◌≢◌, ℕ, [], ◌∷◌, Option, Some, None}
use Rattle.plan.specs.Network.{Network}
use Rattle.regions.specs.Bands.{Bands}
use Rattle.border.specs.declared.op.Op.{Op}
use Rattle.warp_core.specs.Parts.{PartStep}
use Rattle.region_run.specs.Sides.{received_by}
use Rattle.region_run.specs.Regions.{Base, part_of, line_to, ends_with, IsRegion}
use Rattle.region_run.specs.Runs.{MakesStep}
use Rattle.region_run.specs.Channels.{AreTied, channel}
use Rattle.region_run.specs.declared.region.Region.{Region}
use Rattle.region_run.specs.declared.side.Ends.{Ends}

-- the same region but for its room
pub record IsSame (old new : Region) : Type 0 where
  pub id : new.id ≡ old.id
  pub part : part_of new ≡ part_of old
  pub line : (l : ℕ) → line_to new l ≡ line_to old l
  pub ends : (l : ℕ) → ends_with new l ≡ ends_with old l
  pub region : (n : Network) (b : Bands) (until : ℕ) (x : Base) → IsRegion n b until x old → IsRegion n b until x new

-- the region, but for what it has of another one
pub record IsBut (other : ℕ) (old new : Region) : Type 0 where
  pub id : new.id ≡ old.id
  pub line : (l : ℕ) → l ≢ other → line_to new l ≡ line_to old l
  pub ends : (l : ℕ) → l ≢ other → ends_with new l ≡ ends_with old l

-- The sender of a message: of the channel to the receiver it may have lost the first message, and what it received of it is as it was.
pub record IsSender (to : ℕ) (old new : Region) : Type 0 where
  pub but : IsBut to old new
  pub part : part_of new ≡ part_of old
  pub got : received_by (ends_with new to) ≡ received_by (ends_with old to)
  pub region : (n : Network) (b : Bands) (until : ℕ) (x : Base) → IsRegion n b until x old → IsRegion n b until x new

-- The first message of the channel went from one region to the other, which took it.
pub record IsDelivery (n : Network) (b : Bands) (until : ℕ) (x : Base) (from to : Region) (from' to' : Region) : Type 0 where
  pub sender : IsSender to.id from from'
  pub op : Op
  pub first : channel from to ≡ op ∷ channel from' to'
  pub made : MakesStep n b until x to (PartStep.Takes from.id op) to'
  pub ends : (l : ℕ) → l ≢ from.id → ends_with to' l ≡ ends_with to l
  pub ties : AreTied (ends_with from' to.id) (ends_with to' from.id)

-- There was none.
pub record IsNoDelivery (from to : Region) (from' to' : Region) : Type 0 where
  pub sender : IsSender to.id from from'
  pub receiver : IsBut from.id to to'
  pub line : line_to to' from.id ≡ line_to to from.id
  pub part : part_of to' ≡ part_of to
  pub region : (n : Network) (b : Bands) (until : ℕ) (x : Base) → IsRegion n b until x to → IsRegion n b until x to'
  pub none : channel from to ≡ []
  pub empty : channel from' to' ≡ []
  pub ties : AreTied (ends_with from' to.id) (ends_with to' from.id)

-- the ends are those of one ring each way, or neither has any
abbrev pub ArePaired : Option Ends → Option Ends → Type 0
ArePaired None None = Unit {0}
ArePaired (Some e) (Some f) = (e.out.ring ≡ f.inn.ring) × (f.out.ring ≡ e.inn.ring)
ArePaired None (Some f) = ⊥
ArePaired (Some e) None = ⊥

-- the region, but for what the ends of the rings with another one say of what is free and what waits
pub record HasLooked (other : ℕ) (old new : Region) : Type 0 where
  pub id : new.id ≡ old.id
  pub part : part_of new ≡ part_of old
  pub line : (l : ℕ) → line_to new l ≡ line_to old l
  pub got : (l : ℕ) → received_by (ends_with new l) ≡ received_by (ends_with old l)
  pub ends : (l : ℕ) → l ≢ other → ends_with new l ≡ ends_with old l
  pub region : (n : Network) (b : Bands) (until : ℕ) (x : Base) → IsRegion n b until x old → IsRegion n b until x new
