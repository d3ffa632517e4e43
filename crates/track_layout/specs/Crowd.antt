-- How many spans have a column, and sharing of rows by spans.
use Rattle.std.specs.Prelude.{◌≡◌, ℕ, zero, suc, ◌+◌, ◌<◌, ◌≤◌, List, length, true}
use Rattle.circuit_text.specs.Circuits.{NetList}
use Rattle.track_layout.specs.Spans.{first, spans, one_if}
use Rattle.track_layout.specs.Tracks.{track_in}

-- how many of the first nets have a column in their spans
abbrev pub crowd : NetList → ℕ → ℕ → ℕ
crowd c zero col = 0
crowd c (suc b) col = one_if (spans c b col) + crowd c b col

-- each net has one of so many rows, and no two nets of one row have a column of their spans in common
abbrev pub AreShared : NetList → ℕ → (ℕ → ℕ) → Type 0
AreShared c rows row = ((n : ℕ) → n < length c.nets → row n < rows) × ((m n col : ℕ) → m < length c.nets → n < length c.nets → (m ≡ n → ⊥) → row m ≡ row n → spans c m col ≡ true → spans c n col ≡ true → ⊥)

-- a column at which a net of the last track begins, before all others of that track
abbrev pub OpensLast : NetList → List ℕ → ℕ → ℕ → Type 0
OpensLast c tracks count col = (n : ℕ) × (n < length c.nets) × (track_in tracks n + 1 ≡ count) × (first c n ≡ col) × ((m : ℕ) → m < length c.nets → track_in tracks m + 1 ≡ count → col ≤ first c m)
