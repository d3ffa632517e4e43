-- What holds as nets get their tracks, column by column.
use Rattle.std.specs.Prelude.{◌≡◌, ℕ, ◌+◌, ◌*◌, ◌<◌, ◌≤◌, ◌⊎◌, List, length, Option, None, Bool, true, false, get_or, nat_lt}
use Rattle.circuit_text.specs.Circuits.{NetList}
use Rattle.gate_layout.specs.Placed.{col_count}
use Rattle.track_layout.specs.Spans.{first, last, last_by, last_among, one_if}
use Rattle.track_layout.specs.Tracks.{track_in, HasLeast, running}

-- the nets with the property P have their tracks, and no others; a track is free where all of them on it end by their limits
pub record IsSwept (c : NetList) (tracks : List ℕ) (count : ℕ) (free : ℕ → Bool) (P : ℕ → Type 0) (limit : ℕ → ℕ) : Type 0 where
  pub size : length tracks ≡ length c.nets
  pub each : (n : ℕ) → P n → HasLeast c tracks n
  pub below : (n : ℕ) → P n → track_in tracks n < count
  pub ended : (k : ℕ) → free k ≡ true → (k < count) × ((n : ℕ) → P n → track_in tracks n ≡ k → last c n ≤ limit n)
  pub busy : (k : ℕ) → k < count → free k ≡ false → (n : ℕ) × P n × (track_in tracks n ≡ k) × (limit n < last c n)
  pub used : (k : ℕ) → k < count → (n : ℕ) × P n × (track_in tracks n ≡ k)

-- the inputs among the first nets
abbrev pub IsInputBy : NetList → ℕ → ℕ → Type 0
IsInputBy c bound n = (n < length c.nets) × (first c n ≡ 0) × (n < bound)

-- the nets that begin by a column
abbrev pub BeginsBy : NetList → ℕ → ℕ → Type 0
BeginsBy c col n = (n < length c.nets) × (first c n ≤ col)

-- the inputs before this one have been looked at for their end
abbrev pub seen : ℕ → ℕ → ℕ
seen bound n = one_if (nat_lt n bound)

-- the greatest column of each net, up to one
abbrev pub AreLasts : NetList → List ℕ → ℕ → Type 0
AreLasts c lasts col = (length lasts ≡ length c.nets) × ((n : ℕ) → n < length c.nets → get_or lasts n 0 ≡ last_by c.nets col n)

-- the ends of nets, by the first outputs
abbrev pub AreEnds : NetList → List ℕ → ℕ → Type 0
AreEnds c lasts i = (length lasts ≡ length c.nets) × ((n : ℕ) → n < length c.nets → get_or lasts n 0 ≡ last_among c i n)

-- which track a net gets: a free one or a new one, and no lower one is free
pub record IsNext (free after : ℕ → Bool) (count more k : ℕ) : Type 0 where
  pub own : (free k ≡ true) ⊎ (k ≡ count)
  pub lower : (j : ℕ) → j < k → (j < count) × (free j ≡ false)
  pub gone : after k ≡ false
  pub others : (j : ℕ) → (j ≡ k → ⊥) → after j ≡ free j
  pub grows : count ≤ more
  pub within : k < more
  pub only : (j : ℕ) → j < more → (j < count) ⊎ (j ≡ k)

-- the first columns of nets, by the first gates
abbrev pub AreFirsts : NetList → List ℕ → ℕ → Type 0
AreFirsts c firsts g = (length firsts ≡ length c.nets) × ((n : ℕ) → n < length c.nets → first c n < 6 * g + 5 → get_or firsts n 0 ≡ first c n)

-- the nets that run at the columns of all tracks, of the first b nets
abbrev pub AreCells : NetList → List ℕ → ℕ → List (Option ℕ) → ℕ → Type 0
AreCells c tracks count cells b =
    (length cells ≡ count * col_count c.nets)
    × ((k col : ℕ) → k < count → col < col_count c.nets → get_or cells (k * col_count c.nets + col) None ≡ running c tracks b k col)
