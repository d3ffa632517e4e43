-- The tournament: a tree of entries in a list of nodes, each inner node the first of its eight children.
use Rattle.std.specs.Prelude.{ℕ, ◌≡◌, ◌+◌, ◌*◌, ◌/◌, ◌<◌, ◌≤◌, ◌^◌, ◌⊎◌, List, length, map, slice_index_or, Bool, false}
use Rattle.std.specs.List.{range_with_len}
use Rattle.surf_kinds.specs.declared.event.Event.{Event}
use Rattle.surf_kinds.specs.declared.event.Key.{Key}
use Rattle.surf_kinds.specs.Keys.{is_before}
use Rattle.event_queue.specs.declared.entry.Entry.{Entry}

-- what stands where no event is: it comes after every entry of a queue
abbrev pub nothing : Entry
nothing = record { time = 18446744073709551615; offset = 4294967295; channel = 0 }

-- the entry at a position, and nothing past the end
abbrev pub entry_at : List Entry → ℕ → Entry
entry_at list i = slice_index_or list i nothing

-- an entry's key in a queue whose first place is 0; the order of these keys is that of the events' keys, wherever the
-- first place is
abbrev pub offset_key : Entry → Key
offset_key e = record { time = e.time; place = record { 0 = e.offset } }

abbrev pub precedes : Entry → Entry → Bool
precedes a b = is_before (offset_key a) (offset_key b)

-- an entry's event, in a queue whose first place is given
abbrev pub event_of : ℕ → Entry → Event
event_of first e = record { time = e.time; place = record { 0 = first + e.offset }; channel = e.channel }

-- e is one of the entries, or stands for none of them, and no entry precedes it
pub record IsWinner (entries : List Entry) (e : Entry) : Type 0 where
  pub among : (e ≡ nothing) ⊎ ((k : ℕ) × (k < length entries) × (entry_at entries k ≡ e))
  pub none_before : (k : ℕ) → k < length entries → precedes (entry_at entries k) e ≡ false

-- the node above a node; the root is node 6, and its children are the nodes 7 to 14
abbrev pub parent : ℕ → ℕ
parent j = (j + 41) / 8

-- node p has the entry of one of its children, and none of them precedes it
pub record IsFirstOf (nodes : List Entry) (p : ℕ) : Type 0 where
  pub child : ℕ
  pub is_child : parent child ≡ p
  pub same : entry_at nodes child ≡ entry_at nodes p
  pub none_before : (j : ℕ) → parent j ≡ p → precedes (entry_at nodes j) (entry_at nodes p) ≡ false

-- the same of the node above `at`, if the entry that is at `at` were still the old one
pub record WasFirstOf (nodes : List Entry) (at : ℕ) (old : Entry) : Type 0 where
  pub child : ℕ
  pub is_child : parent child ≡ parent at
  pub same_old : child ≡ at → old ≡ entry_at nodes (parent at)
  pub same_other : (child ≡ at → ⊥) → entry_at nodes child ≡ entry_at nodes (parent at)
  pub none_before : (j : ℕ) → parent j ≡ parent at → (j ≡ at → ⊥) → precedes (entry_at nodes j) (entry_at nodes (parent at)) ≡ false

-- each node from the root to inner_end is the first of its children
abbrev pub IsTournament : List Entry → ℕ → Type 0
IsTournament nodes inner_end = (p : ℕ) → 6 ≤ p → p < inner_end → IsFirstOf nodes p

-- the same but for the node above `at`, whose entry was the old one
pub record IsTournamentBut (nodes : List Entry) (inner_end at : ℕ) (old : Entry) : Type 0 where
  pub others : (p : ℕ) → 6 ≤ p → p < inner_end → (p ≡ parent at → ⊥) → IsFirstOf nodes p
  pub over : 6 < at → WasFirstOf nodes at old

-- the entries below the inner nodes, of which there are count
abbrev pub leaves : List Entry → ℕ → ℕ → List Entry
leaves nodes inner_end count = map (λ k. entry_at nodes (inner_end + k)) (range_with_len 0 count)

-- what is true of every tournament, whose nodes have room for so many; those that aren't made count as nothing
pub record IsSound (nodes : List Entry) (room inner_end count : ℕ) : Type 0 where
  pub root : 6 ≤ inner_end
  pub few : inner_end ≤ 2 ^ 32
  pub enough : count + 41 ≤ 7 * inner_end
  pub room_for_all : 8 * inner_end ≤ room + 41
  pub made : length nodes + 41 ≤ 8 * inner_end
  pub ordered : IsTournament nodes inner_end
  pub rest : (j : ℕ) → inner_end + count ≤ j → entry_at nodes j ≡ nothing
