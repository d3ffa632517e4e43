-- The entries of a queue in two tournaments: the lower four of each eight offsets in one, the others in the other.
use Rattle.std.specs.Prelude.{ℕ, ◌≡◌, ◌+◌, ◌*◌, ◌/◌, ◌%◌, ◌<◌, ◌^◌, ◌⊎◌, List, length, map, slice_set, Option, Some, None, nat_lt, ◌==◌, if◌then◌else◌}
use Rattle.std.specs.List.{range_with_len}
use Rattle.surf_kinds.specs.declared.event.Event.{Event}
use Rattle.event_queue.specs.declared.entry.Entry.{Entry}
use Rattle.event_queue.specs.QueueView.{QueueView}
use Rattle.event_queue.specs.Tournament.{entry_at, nothing, event_of}

-- how many entries each half has for so many offsets: four for each eight that are begun
abbrev pub half_of : ℕ → ℕ
half_of count = (count + 7) / 8 * 4

-- the number of an offset in its half
abbrev pub number_of : ℕ → ℕ
number_of o = o / 8 * 4 + o % 4

-- the offset that stands at a number of the lower half, and of the upper one
abbrev pub low_offset : ℕ → ℕ
low_offset i = i / 4 * 8 + i % 4

abbrev pub high_offset : ℕ → ℕ
high_offset i = i / 4 * 8 + i % 4 + 4

-- what stands at an offset
abbrev pub standing : List Entry → List Entry → ℕ → Entry
standing low high o = if nat_lt (o % 8) 4 then entry_at low (number_of o) else entry_at high (number_of o)

-- the halves with an entry at an offset
abbrev pub low_with : List Entry → ℕ → Entry → List Entry
low_with low o e = if nat_lt (o % 8) 4 then slice_set low (number_of o) e else low

abbrev pub high_with : List Entry → ℕ → Entry → List Entry
high_with high o e = if nat_lt (o % 8) 4 then high else slice_set high (number_of o) e

-- the event of what stands somewhere, if anything does
abbrev pub event_if : ℕ → Entry → Option Event
event_if first e = if e.offset == nothing.offset then None else Some (event_of first e)

-- the queue of the events at the first `count` offsets
abbrev pub seen : ℕ → ℕ → List Entry → List Entry → QueueView
seen first count low high = record { first = first; events = map (λ o. event_if first (standing low high o)) (range_with_len 0 count) }

-- e may stand at an offset of so many: it is nothing, or has this offset
abbrev pub MayStand : ℕ → ℕ → Entry → Type 0
MayStand count o e = (e ≡ nothing) ⊎ ((e.offset ≡ o) × (o < count) × (e.time < 2 ^ 64))

-- what is true of every queue
pub record IsSound (first count : ℕ) (low high : List Entry) : Type 0 where
  pub places : first + count < 2 ^ 64
  pub few : count < 2 ^ 32
  pub low_long : length low ≡ half_of count
  pub high_long : length high ≡ half_of count
  pub own : (o : ℕ) → MayStand count o (standing low high o)
