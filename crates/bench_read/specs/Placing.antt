-- What is kept while items are placed.
use Rattle.std.specs.Prelude.{◌≡◌, ℕ, ◌<◌, ◌≤◌, Bool, true, false, List, [], length, map, get_or}
use Rattle.std.specs.List.{All, Contains}
use Rattle.bench_read.specs.Order.{Item, operands_at, item_at, is_placed, is_ready, place_of}

-- so many items, and those of them that are placed, in their order
pub record OrderView : Type 0 where
  pub count : ℕ
  pub placed : List ℕ

-- the place of each item that is placed, and a mark for each other
pub record AreLocated (order places : List ℕ) : Type 0 where
  pub few : length order ≤ 131072
  pub placed : (d : ℕ) → d < length places → is_placed order d ≡ true → get_or places d 0 ≡ place_of order d
  pub unplaced : (d : ℕ) → d < length places → is_placed order d ≡ false → get_or places d 0 ≡ 4294967295

-- the operands are items
abbrev pub AreWithin : List Item → Type 0
AreWithin items = (d : ℕ) → d < length items → All (λ y. y < length items) (operands_at (item_at items d))

-- each gate stands in the list of each of its operands, and the lists have items alone
pub record AreUsers (items : List Item) (users : List (List ℕ)) : Type 0 where
  pub count : length users ≡ length items
  pub each : (d y : ℕ) → d < length items → Contains (operands_at (item_at items d)) y → Contains (get_or users y []) d
  pub within : (y : ℕ) → All (λ d. d < length items) (get_or users y [])

-- each gate that is ready stands among these
abbrev pub Covers : List Item → List ℕ → List ℕ → Type 0
Covers items placed found = (d : ℕ) → d < length items → is_ready items placed d ≡ true → Contains found d

-- all of so many items are placed
abbrev pub IsWhole : ℕ → List ℕ → Type 0
IsWhole count placed = (d : ℕ) → d < count → is_placed placed d ≡ true
