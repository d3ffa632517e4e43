-- The places of a region, as a range of numbers.
use Rattle.std.specs.Prelude.{◌≡◌, ℕ, ◌+◌, ◌*◌, ◌≤◌, ◌↔◌, true}
use Rattle.surf_kinds.specs.declared.place.Step.TheVariants.{Alone}
use Rattle.surf_kinds.specs.Steps.{number_of_place, end_of_places}
use Rattle.lattice.specs.declared.place_range.PlaceRange.{PlaceRange}
use Rattle.lattice.specs.Places.{IsPlace}
use Rattle.lattice.specs.Ranges.{is_in_range}
use Rattle.regions.specs.Bands.{Bands, first_row, owner_of}

-- the first place of a region's first row; of the region after the last one, the end of all places
abbrev pub first_place : Bands → ℕ → ℕ
first_place b region = number_of_place (first_row b region * b.lattice.cols) Alone

abbrev pub range_of : Bands → ℕ → PlaceRange
range_of b region = record { first = first_place b region; end = first_place b (region + 1) }

-- of all places, the region has those of the range, which ends where the places of the lattice end, or before
pub record IsRangeOf (b : Bands) (region : ℕ) (r : PlaceRange) : Type 0 where
  pub exactly : (place : ℕ) → IsPlace b.lattice place → (owner_of b place ≡ region) ↔ (is_in_range r place ≡ true)
  pub order : r.first ≤ r.end
  pub within : r.end ≤ end_of_places (b.lattice.rows * b.lattice.cols)
