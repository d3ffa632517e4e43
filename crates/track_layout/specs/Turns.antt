-- The tracks that a circuit has. The nets take their turns by first column and then by number: the inputs, and then the
-- nets of the gates. Each gets the least track that is free for it.
use Rattle.std.specs.Prelude.{ℕ, zero, suc, ◌+◌, List, length, Bool, false, ◌==◌, ◌&&◌, ◌||◌, nat_lt, nat_le, replicate, slice_set, if◌then◌else◌}
use Rattle.circuit_text.specs.Circuits.{NetList}
use Rattle.gate_layout.specs.Nets.{gate_count, net_of}
use Rattle.track_layout.specs.Spans.{first, last}
use Rattle.track_layout.specs.Tracks.{track_in, TracksView}

abbrev pub is_before : NetList → ℕ → ℕ → Bool
is_before c m n = nat_lt (first c m) (first c n) || ((first c m == first c n) && nat_lt m n)

-- of the first nets, one that is before this net has the track and has not ended where this net begins
abbrev pub is_taken : NetList → List ℕ → ℕ → ℕ → ℕ → Bool
is_taken c tracks n k zero = false
is_taken c tracks n k (suc m) = (is_before c m n && (track_in tracks m == k) && nat_le (first c n) (last c m)) || is_taken c tracks n k m

-- the first track that is not taken, of so many from track k on; else the one behind them
abbrev pub least_free : NetList → List ℕ → ℕ → ℕ → ℕ → ℕ
least_free c tracks n zero k = k
least_free c tracks n (suc more) k = if is_taken c tracks n k (length c.nets) then least_free c tracks n more (suc k) else k

-- a net gets a track, which is a new one where it is the one behind all others
abbrev pub with_track : NetList → TracksView → ℕ → ℕ → TracksView
with_track c t n k = record { list = c; tracks = slice_set t.tracks n k; count = if k == t.count then t.count + 1 else t.count }

abbrev pub take_turn : NetList → TracksView → ℕ → TracksView
take_turn c t n = with_track c t n (least_free c t.tracks n t.count 0)

-- after the turns of the inputs among the first nets
abbrev pub after_inputs : NetList → ℕ → TracksView
after_inputs c zero = record { list = c; tracks = replicate (length c.nets) 0; count = 0 }
after_inputs c (suc n) = if first c n == 0 then take_turn c (after_inputs c n) n else after_inputs c n

-- and after those of the first gates
abbrev pub after_gates : NetList → ℕ → TracksView
after_gates c zero = after_inputs c (length c.nets)
after_gates c (suc g) = take_turn c (after_gates c g) (net_of c.nets g)

unfoldable pub tracks_of : NetList → TracksView
tracks_of c = after_gates c (gate_count c.nets)
