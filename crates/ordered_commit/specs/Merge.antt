-- Lists of events that can be put into one order.
use Rattle.std.specs.Prelude.{ℕ, ◌<◌, ◌||◌, List, [], IsTrue, slice_index_or}
use Rattle.std.specs.List.{All, Contains, flat_map}
use Rattle.surf_kinds.specs.declared.event.Event.{Event}
use Rattle.surf_kinds.specs.Keys.{is_earlier, RiseStrictly}

-- the events of all the lists, list after list
abbrev pub all_events : List (List Event) → List Event
all_events lists = flat_map (λ list. list) lists

-- one of the two has the lesser key
abbrev pub HaveOtherKeys : Event → Event → Type 0
HaveOtherKeys e f = IsTrue (is_earlier e f || is_earlier f e)

-- the keys of each list rise strictly, and no event of a list has the key of an event of another list
pub record AreMergeable (lists : List (List Event)) : Type 0 where
  pub rise : All RiseStrictly lists
  pub differ : (i j : ℕ) (e f : Event) → i < j → Contains (slice_index_or lists i []) e → Contains (slice_index_or lists j []) f → HaveOtherKeys e f
