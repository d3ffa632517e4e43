-- What is seen of the two ends of a ring, and how they change.
use Rattle.std.specs.Prelude.{ℕ, ◌+◌, ◌-◌, List, [], ◌∷◌, ◌++◌, length, min, drop}
use denote.RawPtr.{Ptr}
use Rattle.rtrb.specs.declared.producer.Producer.{Producer}
use Rattle.rtrb.specs.declared.consumer.Consumer.{Consumer}
use Rattle.border.specs.declared.op.Op.{Op}

-- which ring an end is an end of
pub record RingName : Type 0 where
  pub words : Ptr
  pub cells : Ptr
  pub names : ℕ × (ℕ × ℕ)

module _ {A P : Type 0} where
  abbrev pub name_of_out : Producer Op A P → RingName
  name_of_out p = record { words = p.end.words; cells = p.end.slots; names = p.end.names }

  abbrev pub name_of_in : Consumer Op A P → RingName
  name_of_in c = record { words = c.end.words; cells = c.end.slots; names = c.end.names }

-- the end that sends: what was sent, and how many slots it keeps as free
pub record OutView : Type 0 where
  pub ring : RingName
  pub slots : ℕ
  pub sent : List Op
  pub free : ℕ

-- the end that takes: what was received, the messages that it keeps as waiting, and how often it was asked
pub record InView : Type 0 where
  pub ring : RingName
  pub slots : ℕ
  pub received : List Op
  pub ahead : List Op
  pub asked : ℕ

-- how many messages the end keeps as waiting
abbrev pub waiting : InView → ℕ
waiting i = length i.ahead

-- a count raised by one; it stops at 2 ^ 64 - 1
abbrev pub counted : ℕ → ℕ
counted n = min (n + 1) 18446744073709551615

-- the end that sends, after it sent a message
abbrev pub after_send : OutView → Op → OutView
after_send o op = record o { sent = o.sent ++ op ∷ []; free = o.free - 1 }

-- the end that takes, after it was asked in vain
abbrev pub after_ask : InView → InView
after_ask i = record i { asked = counted i.asked }

-- the end that takes, after it gave a message
abbrev pub after_take : InView → Op → InView
after_take i op = record i { received = i.received ++ op ∷ []; ahead = drop 1 i.ahead; asked = counted i.asked }
