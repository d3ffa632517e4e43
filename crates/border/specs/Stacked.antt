-- What is seen of the stacks, and what holds of them.
use Rattle.std.specs.Prelude.{◌≡◌, ℕ, ◌+◌, ◌<◌, ◌≤◌, List, [], map, length, slice_index_or, vec_len, vec_capacity, Vec}
use Rattle.std.specs.Global.{Global}
use Rattle.surf_kinds.specs.declared.event.Event.{Event}
use Rattle.surf_kinds.specs.declared.event.Key.{Key}
use Rattle.surf_kinds.specs.Keys.{from, RiseStrictly}

-- a stack of events for each sender, and for how many messages there is room
pub record StacksView : Type 0 where
  pub stacks : List (List Event)
  pub spare : ℕ

-- the stack of a sender
abbrev pub stack_of : StacksView → ℕ → List Event
stack_of s sender = slice_index_or s.stacks sender []

abbrev pub stacks_of : List (Vec Event Global) → List (List Event)
stacks_of vs = map (λ v. v.items) vs

-- keys that rise strictly, and room for so many more events
pub record IsStack (spare : ℕ) (v : Vec Event Global) : Type 0 where
  pub rising : RiseStrictly v.items
  pub room : vec_len v + spare ≤ vec_capacity v

abbrev pub AreStacks : ℕ → List (Vec Event Global) → Type 0
AreStacks spare vs = (i : ℕ) (d : Vec Event Global) → i < length vs → IsStack spare (slice_index_or vs i d)

-- the same events, with no less room
pub record IsGrown (v w : Vec Event Global) : Type 0 where
  pub items : w.items ≡ v.items
  pub len : vec_len w ≡ vec_len v
  pub capacity : vec_capacity v ≤ vec_capacity w

abbrev pub AreGrown : List (Vec Event Global) → List (Vec Event Global) → Type 0
AreGrown vs ws = (i : ℕ) (d : Vec Event Global) → i < length vs → IsGrown (slice_index_or vs i d) (slice_index_or ws i d)

-- the first n stacks have room for so many more events
abbrev pub HaveRoom : ℕ → ℕ → List (Vec Event Global) → Type 0
HaveRoom more n ws = (i : ℕ) (d : Vec Event Global) → i < n → vec_len (slice_index_or ws i d) + more ≤ vec_capacity (slice_index_or ws i d)

-- the events from a key on, with the same room
pub record IsRest (key : Key) (v w : Vec Event Global) : Type 0 where
  pub items : w.items ≡ from key v.items
  pub len : vec_len w ≤ vec_len v
  pub capacity : vec_capacity w ≡ vec_capacity v

abbrev pub AreRests : Key → List (Vec Event Global) → List (Vec Event Global) → Type 0
AreRests key vs ws = (i : ℕ) (d : Vec Event Global) → i < length vs → IsRest key (slice_index_or vs i d) (slice_index_or ws i d)
