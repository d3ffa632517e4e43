-- A queue as its callers see it: the events that it keeps, one per place at most.
use Rattle.std.specs.Prelude.{ℕ, zero, suc, ◌≡◌, ◌+◌, ◌-◌, ◌<◌, ◌≤◌, List, length, slice_index_or, Option, Some, None, false}
use Rattle.surf_kinds.specs.Keys.{is_earlier, earlier}
use Rattle.surf_kinds.specs.declared.event.Event.{Event}
use Rattle.surf_kinds.specs.declared.place.Place.{Place}

-- the first place, and for each place from there on the event that is kept, if any
pub record QueueView : Type 0 where
  pub first : ℕ
  pub events : List (Option Event)

-- the place is one of the queue's
abbrev pub HasPlace : QueueView → Place → Type 0
HasPlace q place = (q.first ≤ place.0) × (place.0 < q.first + length q.events)

-- what is kept at a place
abbrev pub event_at : QueueView → Place → Option Event
event_at q place = slice_index_or q.events (place.0 - q.first) None

-- no event is kept
abbrev pub IsEmpty : QueueView → Type 0
IsEmpty q = (k : ℕ) → slice_index_or q.events k None ≡ None

-- e is kept at its place, and no kept event is before it
pub record IsLeast (q : QueueView) (e : Event) : Type 0 where
  pub has_place : HasPlace q e.place
  pub is_kept : event_at q e.place ≡ Some e
  pub none_before : (k : ℕ) (f : Event) → slice_index_or q.events k None ≡ Some f → is_earlier f e ≡ false

-- the event of the least key among the first n entries of a list
abbrev pub least_among : List (Option Event) → ℕ → Option Event
least_among events zero = None
least_among events (suc n) = earlier (least_among events n) (slice_index_or events n None)
