-- The channel from one region to another: what waits in the ring, then what waits in the outbox.
use Rattle.std.specs.Prelude.{◌≡◌, ℕ, ◌+◌, ◌≤◌, ◌⊎◌, List, [], ◌++◌, length, drop, Option, Some, None}
use Rattle.border.specs.declared.op.Op.{Op}
use Rattle.border.specs.Ends.{OutView, InView}
use Rattle.region_run.specs.Sides.{SideView, received_by}
use Rattle.region_run.specs.Regions.{line_to, ends_with}
use Rattle.region_run.specs.declared.region.Region.{Region}
use Rattle.region_run.specs.declared.side.Ends.{Ends}

-- what was put for a region, less what it received
abbrev pub channel : Region → Region → List Op
channel from to = drop (length (received_by (ends_with to from.id))) (line_to from to.id)

-- what was received of what was sent into one ring
pub record IsOneRing (o : OutView) (i : InView) : Type 0 where
  pub ring : o.ring ≡ i.ring
  pub received : i.received ++ drop (length i.received) o.sent ≡ o.sent

-- the ends are those of one ring each way, or neither has any
abbrev pub AreTied : Option Ends → Option Ends → Type 0
AreTied None None = Unit {0}
AreTied (Some e) (Some f) = IsOneRing e.out f.inn × IsOneRing f.out e.inn
AreTied None (Some f) = ⊥
AreTied (Some e) None = ⊥

-- What the ring takes of an outbox went into it.
pub record EndsFlushed (e : Ends) (outbox outbox' : List Op) (f : Ends) : Type 0 where
  pub inn : f.inn ≡ e.inn
  pub line : f.out.sent ++ outbox' ≡ e.out.sent ++ outbox
  pub ring : f.out.ring ≡ e.out.ring
  pub slots : f.out.slots ≡ e.out.slots
  pub free : length e.out.sent + e.out.free ≤ length f.out.sent + f.out.free

-- all that waited was sent, or as much as was known free
abbrev pub IsSentOut : Ends → List Op → Ends → Type 0
IsSentOut e outbox' f = (outbox' ≡ []) ⊎ (length e.out.sent + e.out.free ≤ length f.out.sent)

abbrev pub RingFlushed : Option Ends → List Op → List Op → Option Ends → Type 0
RingFlushed None outbox outbox' None = outbox' ≡ outbox
RingFlushed (Some e) outbox outbox' (Some f) = EndsFlushed e outbox outbox' f × IsSentOut e outbox' f
RingFlushed None outbox outbox' (Some f) = ⊥
RingFlushed (Some e) outbox outbox' None = ⊥

pub record SideFlushed (s t : SideView) : Type 0 where
  pub other : t.other ≡ s.other
  pub room : s.room ≤ t.room
  pub ring : RingFlushed s.ends s.outbox t.outbox t.ends

abbrev pub Flushed : Option SideView → Option SideView → Type 0
Flushed None None = Unit {0}
Flushed (Some s) (Some t) = SideFlushed s t
Flushed None (Some t) = ⊥
Flushed (Some s) None = ⊥

-- some of what waits was sent, where there is a ring
abbrev pub RingMoved : Option Ends → List Op → List Op → Option Ends → Type 0
RingMoved None outbox outbox' None = outbox' ≡ outbox
RingMoved (Some e) outbox outbox' (Some f) = EndsFlushed e outbox outbox' f
RingMoved None outbox outbox' (Some f) = ⊥
RingMoved (Some e) outbox outbox' None = ⊥

abbrev pub IsFull : Option Ends → List Op → Type 0
IsFull None outbox = Unit {0}
IsFull (Some e) outbox = (outbox ≡ []) ⊎ (e.out.free ≡ 0)

-- the first message that waits, or more, was sent
pub record IsMoved (s t : SideView) : Type 0 where
  pub other : t.other ≡ s.other
  pub room : s.room ≤ t.room
  pub ring : RingMoved s.ends s.outbox t.outbox t.ends

abbrev pub IsMove : SideView → SideView → Type 0
IsMove s t = IsMoved s t × (length t.outbox + 1 ≡ length s.outbox)

-- nothing was sent: there is no ring, nothing waits, or no slot is known to be free
abbrev pub IsStop : SideView → SideView → Type 0
IsStop s t = (t ≡ s) × IsFull s.ends s.outbox

-- the first message of an outbox was sent, and its room is no less
pub record IsSentOne (e : Ends) (box : List Op) (room : ℕ) (f : Ends) (box' : List Op) (room' : ℕ) : Type 0 where
  pub ends : EndsFlushed e box box' f
  pub fewer : length box' + 1 ≡ length box
  pub room_is : room ≤ room'

-- nothing was sent: nothing waits, or no slot is known to be free
pub record IsUnsent (e : Ends) (box : List Op) (room : ℕ) (f : Ends) (box' : List Op) (room' : ℕ) : Type 0 where
  pub ends : f ≡ e
  pub same : box' ≡ box
  pub room_is : room' ≡ room
  pub full : (box ≡ []) ⊎ (e.out.free ≡ 0)
