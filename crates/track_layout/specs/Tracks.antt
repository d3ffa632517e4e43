-- The tracks of a circuit's nets: each gets the least one that is free when its turn comes.
use Rattle.std.specs.Prelude.{◌≡◌, ℕ, zero, suc, ◌*◌, ◌<◌, ◌⊎◌, List, length, Option, Some, None, true, ◌==◌, ◌&&◌, if◌then◌else◌, get_or}
use Rattle.std.specs.List.{list_any}
use Rattle.circuit_text.specs.Circuits.{NetList}
use Rattle.gate_layout.specs.Table.{Table}
use Rattle.gate_layout.specs.Placed.{Placement, table_on, rows_on, col_count}
use Rattle.track_layout.specs.Spans.{first, last, spans}

-- the nets are taken by first column and then by number
abbrev pub IsBefore : NetList → ℕ → ℕ → Type 0
IsBefore c m n = (first c m < first c n) ⊎ ((first c m ≡ first c n) × (m < n))

abbrev pub track_in : List ℕ → ℕ → ℕ
track_in tracks n = get_or tracks n 0

-- a track is free for a net: every net before it that has this track ends below the first column of the net
abbrev pub IsFree : NetList → List ℕ → ℕ → ℕ → Type 0
IsFree c tracks k n = (m : ℕ) → m < length c.nets → IsBefore c m n → track_in tracks m ≡ k → last c m < first c n

-- a net has the least track that is free for it
abbrev pub HasLeast : NetList → List ℕ → ℕ → Type 0
HasLeast c tracks n = IsFree c tracks (track_in tracks n) n × ((k : ℕ) → k < track_in tracks n → IsFree c tracks k n → ⊥)

-- so do all nets; and the tracks that they have are those below the count
abbrev pub AreTracks : NetList → List ℕ → ℕ → Type 0
AreTracks c tracks count =
    (length tracks ≡ length c.nets)
    × ((n : ℕ) → n < length c.nets → HasLeast c tracks n)
    × ((n : ℕ) → n < length c.nets → track_in tracks n < count)
    × ((k : ℕ) → k < count → list_any (λ t. t == k) tracks ≡ true)

-- the net, of the first n, that has a track and spans a column of it
abbrev pub running : NetList → List ℕ → ℕ → ℕ → ℕ → Option ℕ
running c tracks zero k col = None
running c tracks (suc n) k col = if (track_in tracks n == k) && spans c n col then Some n else running c tracks n k col

-- nets run on their tracks along their spans
abbrev pub on_tracks : NetList → List ℕ → ℕ → Placement
on_tracks c tracks count = record { tracks = count; track = track_in tracks; runs = running c tracks (length c.nets) }

-- the circuit, the track of each net, and how many tracks there are
pub record TracksView : Type 0 where
  pub list : NetList
  pub tracks : List ℕ
  pub count : ℕ

abbrev pub placing : TracksView → Placement
placing t = on_tracks t.list t.tracks t.count

-- the compact table
abbrev pub compact_table : TracksView → Table
compact_table t = table_on (placing t) t.list

abbrev pub site_count : TracksView → ℕ
site_count t = rows_on (placing t) * col_count t.list.nets
