-- What a region has of a neighbour.
use Rattle.std.specs.Prelude.{◌≡◌, ℕ, zero, suc, ◌+◌, ◌≤◌, ◌==◌, ◌&&◌, min, Bool, false, List, [], ◌∷◌, ◌++◌, length, Option, Some, None, if◌then◌else◌}
use Rattle.surf_kinds.specs.declared.event.Event.{Event}
use Rattle.surf_kinds.specs.declared.event.Key.{Key}
use Rattle.surf_kinds.specs.Keys.{is_before, key_of, keep, from}
use Rattle.regions.specs.Bands.{Bands, owner_of}
use Rattle.regions.specs.Seen.{is_told}
use Rattle.border.specs.declared.op.Op.{Op}
use Rattle.border.specs.declared.op.Op.TheVariants.{Put, Back}
use Rattle.border.specs.Ends.{counted}
use Rattle.region_run.specs.declared.side.Ends.{Ends}

-- the neighbour's number, the ends of the rings to it and from it once there are any, the messages that wait for it, and for how many more there is room
pub record SideView : Type 0 where
  pub other : ℕ
  pub ends : Option Ends
  pub outbox : List Op
  pub room : ℕ

-- the neighbour has this number
abbrev pub is_other : Option SideView → ℕ → Bool
is_other None l = false
is_other (Some s) l = s.other == l

abbrev pub number_of : Option SideView → Option ℕ
number_of None = None
number_of (Some s) = Some s.other

abbrev pub outbox_of : Option SideView → List Op
outbox_of None = []
outbox_of (Some s) = s.outbox

abbrev pub ends_of : Option SideView → Option Ends
ends_of None = None
ends_of (Some s) = s.ends

-- what was sent into the ring, where there is one
abbrev pub sent_by : Option Ends → List Op
sent_by None = []
sent_by (Some e) = e.out.sent

-- what was received from the ring, where there is one
abbrev pub received_by : Option Ends → List Op
received_by None = []
received_by (Some e) = e.inn.received

-- what was sent, and then what waits
abbrev pub line_of : Option SideView → List Op
line_of None = []
line_of (Some s) = sent_by s.ends ++ s.outbox

abbrev pub HasRoom : ℕ → Option SideView → Type 0
HasRoom n None = Unit {0}
HasRoom n (Some s) = n ≤ s.room

-- the message, if there is one
abbrev pub one : Option Op → List Op
one None = []
one (Some op) = op ∷ []

-- a count raised by a number; it stops at 2 ^ 64 - 1
abbrev pub raised : ℕ → ℕ → ℕ
raised n by = min (n + by) 18446744073709551615

-- the count of an in end's questions after so many more
abbrev pub asked_after : ℕ → ℕ → ℕ
asked_after n zero = n
asked_after n (suc more) = counted (asked_after n more)

-- The in end handed out these messages while it was asked so often; the out end is as it was.
pub record EndsHeard (e : Ends) (ops : List Op) (asks : ℕ) (f : Ends) : Type 0 where
  pub out : f.out ≡ e.out
  pub ring : f.inn.ring ≡ e.inn.ring
  pub slots : f.inn.slots ≡ e.inn.slots
  pub received : f.inn.received ≡ e.inn.received ++ ops
  pub asked : f.inn.asked ≡ asked_after e.inn.asked asks

-- the same where there may be no ring: then nothing is handed out
abbrev pub RingHeard : Option Ends → List Op → ℕ → Option Ends → Type 0
RingHeard None ops asks None = ops ≡ []
RingHeard (Some e) ops asks (Some f) = EndsHeard e ops asks f
RingHeard None ops asks (Some f) = ⊥
RingHeard (Some e) ops asks None = ⊥

-- The in end handed out these messages while it was asked so often. Each slot that was known to be free before the out end is so still, or a message was sent into it.
pub record EndsExchanged (e : Ends) (ops : List Op) (asks : ℕ) (f : Ends) : Type 0 where
  pub out_ring : f.out.ring ≡ e.out.ring
  pub in_ring : f.inn.ring ≡ e.inn.ring
  pub out_slots : f.out.slots ≡ e.out.slots
  pub in_slots : f.inn.slots ≡ e.inn.slots
  pub received : f.inn.received ≡ e.inn.received ++ ops
  pub asked : f.inn.asked ≡ asked_after e.inn.asked asks
  pub free : length e.out.sent + e.out.free ≤ length f.out.sent + f.out.free

abbrev pub RingExchanged : Option Ends → List Op → ℕ → Option Ends → Type 0
RingExchanged None ops asks None = ops ≡ []
RingExchanged (Some e) ops asks (Some f) = EndsExchanged e ops asks f
RingExchanged None ops asks (Some f) = ⊥
RingExchanged (Some e) ops asks None = ⊥

pub record SideExchanged (s : SideView) (ops : List Op) (asks : ℕ) (t : SideView) : Type 0 where
  pub other : t.other ≡ s.other
  pub ring : RingExchanged s.ends ops asks t.ends

-- the same where there may be no neighbour
abbrev pub Exchanged : Option SideView → List Op → ℕ → Option SideView → Type 0
Exchanged None ops asks None = ops ≡ []
Exchanged (Some s) ops asks (Some t) = SideExchanged s ops asks t
Exchanged None ops asks (Some t) = ⊥
Exchanged (Some s) ops asks None = ⊥

-- The ring was asked once, and handed out this message; all else is as it was.
pub record SideAsked (s : SideView) (o : Option Op) (t : SideView) : Type 0 where
  pub rest : t ≡ record s { ends = t.ends }
  pub ring : RingHeard s.ends (one o) 1 t.ends

abbrev pub Asked : Option SideView → Option Op → Option SideView → Type 0
Asked None o None = o ≡ None
Asked (Some s) o (Some t) = SideAsked s o t
Asked None o (Some t) = ⊥
Asked (Some s) o None = ⊥

-- These messages went last into the outbox, and at most one of them needed room.
pub record SideGained (s : SideView) (ops : List Op) (t : SideView) : Type 0 where
  pub other : t.other ≡ s.other
  pub ends : t.ends ≡ s.ends
  pub outbox : t.outbox ≡ s.outbox ++ ops
  pub room : s.room ≤ t.room + 1

abbrev pub Gained : Option SideView → (ℕ → List Op) → Option SideView → Type 0
Gained None ops None = Unit {0}
Gained (Some s) ops (Some t) = SideGained s (ops s.other) t
Gained None ops (Some t) = ⊥
Gained (Some s) ops None = ⊥

-- what an event puts for a region, if it is an own one
abbrev pub event_puts : Bands → Bool → Event → ℕ → List Op
event_puts b own e l = if own && is_told b l e.place.0 then Put e ∷ [] else []

-- the neighbour is told of the events at the place
abbrev pub is_side_told : Bands → Option SideView → ℕ → Bool
is_side_told b None p = false
is_side_told b (Some s) p = is_told b s.other p

-- the keys of own places of which a neighbour is told
abbrev pub is_own_told : Bands → ℕ → Option SideView → Key → Bool
is_own_told b id side k = (owner_of b k.place.0 == id) && is_side_told b side k.place.0

abbrev pub first_key : List Event → Option Key
first_key [] = None
first_key (e ∷ es) = Some (key_of e)

-- the key of the first own event from a key on that a neighbour was told of
abbrev pub first_told_of : Bands → ℕ → Option SideView → Key → List Event → Option Key
first_told_of b id side key es = first_key (keep (is_own_told b id side) (from key es))

-- the lesser of two keys, or the one that there is
abbrev pub lesser_key : Option Key → Option Key → Option Key
lesser_key None b = b
lesser_key (Some a) None = Some a
lesser_key (Some a) (Some b) = if is_before b a then Some b else Some a

-- where a neighbour was told, a Back with the least key that any was told of
abbrev pub back_of : Option Key → Option Key → List Op
back_of None any = []
back_of (Some k) None = []
back_of (Some k) (Some j) = Back j ∷ []
