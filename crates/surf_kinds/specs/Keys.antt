-- The order of events by their keys: by time, then by place. Lists of events cut by key.
use Rattle.std.specs.Prelude.{◌+◌, List, [], ◌∷◌, Option, Some, None, Bool, true, false, not, ◌≡◌, ◌==◌, ◌&&◌, ◌||◌, nat_lt, filter, if◌then◌else◌, IsTrue, ⊤}
use Rattle.surf_kinds.specs.declared.event.Event.{Event}
use Rattle.surf_kinds.specs.declared.event.Key.{Key}

-- Keys

-- by time, then by place
abbrev pub is_before : Key → Key → Bool
is_before j k = nat_lt j.time k.time || (j.time == k.time && nat_lt j.place.0 k.place.0)

abbrev pub same_key : Key → Key → Bool
same_key j k = j.time == k.time && j.place.0 == k.place.0

infix 20 ◌is_below◌
infix 20 ◌is_upto◌
abbrev pub ◌is_below◌ : Key → Key → Type 0
j is_below k = is_before j k ≡ true

abbrev pub ◌is_upto◌ : Key → Key → Type 0
j is_upto k = is_before k j ≡ false

-- the first of all keys
abbrev pub origin : Key
origin = record { time = 0; place = record { 0 = 0 } }

-- the next key: the same time at the next place
abbrev pub key_after : Key → Key
key_after k = record { time = k.time; place = record { 0 = k.place.0 + 1 } }

-- Events

abbrev pub key_of : Event → Key
key_of e = record { time = e.time; place = e.place }

-- e's key is before f's
abbrev pub is_earlier : Event → Event → Bool
is_earlier e f = is_before (key_of e) (key_of f)

-- the event of the lesser key; of equal keys, the first event
abbrev pub earlier : Option Event → Option Event → Option Event
earlier None y = y
earlier (Some x) None = Some x
earlier (Some x) (Some y) = if is_earlier y x then Some y else Some x

-- Lists of events

-- the events whose keys pass a test
abbrev pub keep : (Key → Bool) → List Event → List Event
keep test es = filter (λ e. test (key_of e)) es

-- the events below a key
abbrev pub below : Key → List Event → List Event
below k es = keep (λ j. is_before j k) es

-- the events from a key on
abbrev pub from : Key → List Event → List Event
from k es = keep (λ j. not (is_before j k)) es

-- the first event of a list that has this key
abbrev pub at : Key → List Event → Option Event
at k [] = None
at k (e ∷ es) = if same_key (key_of e) k then Some e else at k es

-- what holds of each key in a list
abbrev pub AllKeys : (Key → Type 0) → List Event → Type 0
AllKeys P [] = ⊤
AllKeys P (e ∷ es) = P (key_of e) × AllKeys P es

-- each event's key is below the keys of all events behind it
abbrev pub IsRising : List Event → Type 0
IsRising [] = ⊤
IsRising (e ∷ es) = AllKeys (λ k. key_of e is_below k) es × IsRising es

-- the same, each event against the next one: the keys of these events rise strictly, from e's key on
abbrev pub RiseFrom : Event → List Event → Type 0
RiseFrom e [] = ⊤
RiseFrom e (f ∷ fs) = IsTrue (is_earlier e f) × RiseFrom f fs

abbrev pub RiseStrictly : List Event → Type 0
RiseStrictly [] = ⊤
RiseStrictly (e ∷ es) = RiseFrom e es
