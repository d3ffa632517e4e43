-- What messages make of a stack of events, and which messages one region may send another.
use Rattle.std.specs.Prelude.{ℕ, ◌^◌, ◌≤◌, ◌≡◌, Bool, true, not, ◌==◌, ◌&&◌, nat_le, List, [], ◌∷◌, ◌++◌, Option, Some, None, if◌then◌else◌}
use Rattle.surf_kinds.specs.declared.event.Event.{Event}
use Rattle.surf_kinds.specs.declared.event.Key.{Key}
use Rattle.surf_kinds.specs.Keys.{key_of, is_before, ◌is_upto◌, below}
use Rattle.border.specs.declared.op.Op.{Op}
use Rattle.border.specs.declared.op.Op.TheVariants.{Put, Back}

-- the key from which on a message cuts a stack: that of its event, or the one that it names
abbrev pub op_key : Op → Key
op_key (Put e) = key_of e
op_key (Back k) = k

-- a Put keeps the events below its event's key and adds the event; a Back keeps the events below its key
abbrev pub replay_one : List Event → Op → List Event
replay_one stack (Put e) = below (key_of e) stack ++ e ∷ []
replay_one stack (Back k) = below k stack

-- a stack after messages, in their order
abbrev pub replay : List Event → List Op → List Event
replay stack [] = stack
replay stack (op ∷ ops) = replay (replay_one stack op) ops

-- each message's key is from this one on
abbrev pub AllOpsFrom : Key → List Op → Type 0
AllOpsFrom k [] = Unit {0}
AllOpsFrom k (op ∷ ops) = (k is_upto op_key op) × AllOpsFrom k ops

-- What messages depend on in a simulation that is cut into regions.
pub record Partition : Type 0 where
  -- the region that a place belongs to
  pub owner : ℕ → ℕ
  -- whether a region is told of the events at a place: `told region place`
  pub told : ℕ → ℕ → Bool
  -- whether an event's channel is one of a rule with as many sites as the event's place, in a way that the rule has
  pub fits : Event → Bool

-- The sender may put this event for the receiver, wherever the receiver's floor is.
pub record IsPutOf (p : Partition) (sender receiver : ℕ) (e : Event) : Type 0 where
  pub owned : (p.owner e.place.0 == sender) ≡ true
  pub told : p.told receiver e.place.0 ≡ true
  pub fits : p.fits e ≡ true
  pub early : 1 ≤ e.time
  pub late : e.time ≤ 10 ^ 15

-- A Put of this event from the sender is lawful for the receiver with this floor.
pub record IsLawful (p : Partition) (sender receiver : ℕ) (floor : Key) (e : Event) : Type 0 where
  pub from_floor : floor is_upto key_of e
  pub put : IsPutOf p sender receiver e

-- the same two as tests
abbrev pub is_put_of : Partition → ℕ → ℕ → Event → Bool
is_put_of p sender receiver e =
    p.owner e.place.0 == sender && (p.told receiver e.place.0 && (p.fits e && (nat_le 1 e.time && nat_le e.time 1000000000000000)))

abbrev pub is_lawful : Partition → ℕ → ℕ → Key → Event → Bool
is_lawful p sender receiver floor e = not (is_before (key_of e) floor) && is_put_of p sender receiver e

-- What the receiver takes a message for: a Put that isn't lawful is passed over, and a Back below the floor is a Back
-- at the floor.
abbrev pub accepted_op : Partition → ℕ → ℕ → Key → Op → Option Op
accepted_op p sender receiver floor (Put e) = if is_lawful p sender receiver floor e then Some (Put e) else None
accepted_op p sender receiver floor (Back k) = if is_before k floor then Some (Back floor) else Some (Back k)

-- What the sender may send the receiver: lawful Puts within the duration, and no key below the floor.
abbrev pub IsSent : Partition → ℕ → ℕ → Key → ℕ → Op → Type 0
IsSent p sender receiver floor until (Put e) = (floor is_upto key_of e) × (e.time ≤ until) × IsPutOf p sender receiver e
IsSent p sender receiver floor until (Back k) = floor is_upto k
