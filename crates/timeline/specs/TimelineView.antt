-- What a timeline is seen as, and how a key cuts its entries.
use Rattle.std.specs.Prelude.{ℕ, List, None, not, map, filter, IfSome}
use Rattle.std.specs.List.{last_or}
use Rattle.surf_kinds.specs.declared.event.Event.{Event}
use Rattle.surf_kinds.specs.declared.event.Key.{Key}
use Rattle.surf_kinds.specs.Keys.{is_before, ◌is_below◌, key_of}
use Rattle.timeline.specs.declared.entry.Entry.{Entry}

-- the entries, and how many more may be pushed before memory is taken
pub record TimelineView : Type 0 where
  pub entries : List Entry
  pub spare : ℕ

abbrev pub events_of : List Entry → List Event
events_of entries = map (λ e. e.before.event) entries

-- the key of an entry's event
abbrev pub entry_key : Entry → Key
entry_key e = key_of e.before.event

-- the entries below a key
abbrev pub below : Key → List Entry → List Entry
below key entries = filter (λ e. is_before (entry_key e) key) entries

-- the entries from a key on
abbrev pub from : Key → List Entry → List Entry
from key entries = filter (λ e. not (is_before (entry_key e) key)) entries

-- the last of these entries, if there is one, is below the key
abbrev pub EndsBelow : Key → List Entry → Type 0
EndsBelow key entries = IfSome (last_or None entries) (λ last. entry_key last is_below key)

-- the entry's key is greater than that of the last of these entries
abbrev pub IsLater : List Entry → Entry → Type 0
IsLater entries e = EndsBelow (entry_key e) entries
