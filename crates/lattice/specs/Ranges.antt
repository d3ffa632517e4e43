-- Ranges of places.
use Rattle.std.specs.Prelude.{ℕ, Bool, ◌&&◌, nat_le, nat_lt}
use Rattle.lattice.specs.declared.place_range.PlaceRange.{PlaceRange}

-- from the first number of the range up to, and not with, its end
abbrev pub is_in_range : PlaceRange → ℕ → Bool
is_in_range r place = nat_le r.first place && nat_lt place r.end
