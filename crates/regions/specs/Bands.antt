-- A lattice cut into bands of rows, one for each region, and the region that a place belongs to.
use Rattle.std.specs.Prelude.{ℕ, zero, suc, ◌+◌, ◌*◌, ◌/◌, ◌≤◌, min, Bool, ◌&&◌, nat_lt, nat_le, if◌then◌else◌}
use Rattle.std.specs.Option.{option_map_or}
use Rattle.surf_kinds.specs.declared.site.Sites.{Sites}
use Rattle.lattice.specs.Shape.{Shape, IsSize}
use Rattle.lattice.specs.Places.{sites_of}

pub record Bands : Type 0 where
  pub lattice : Shape
  pub count : ℕ

-- there are 1 to 64 regions, and at least as many rows
pub record IsCut (b : Bands) : Type 0 where
  pub size : IsSize b.lattice.rows b.lattice.cols
  pub at_least : 1 ≤ b.count
  pub at_most : b.count ≤ 64
  pub has_rows : b.count ≤ b.lattice.rows

-- as many regions as there are workers, or as there are rows where these are fewer
abbrev pub cut_for : Shape → ℕ → Bands
cut_for l workers = record { lattice = l; count = min workers l.rows }

-- the first row of a region
abbrev pub first_row : Bands → ℕ → ℕ
first_row b region = region * b.lattice.rows / b.count

-- a region has the rows from its first one up to, but not with, the first one of the region after it
abbrev pub has_row : Bands → ℕ → ℕ → Bool
has_row b region row = nat_le (first_row b region) row && nat_lt row (first_row b (region + 1))

-- the one of the first n regions that has the row
abbrev pub one_with : Bands → ℕ → ℕ → ℕ
one_with b row zero = 0
one_with b row (suc region) = if has_row b region row then region else one_with b row region

-- the region that has the row
unfoldable pub region_of : Bands → ℕ → ℕ
region_of b row = one_with b row b.count

-- a place belongs to the region that has the row of its first site; a number that is no place has the region 0
unfoldable pub owner_of : Bands → ℕ → ℕ
owner_of b place = option_map_or (λ (p : Sites). region_of b (p.first.0 / b.lattice.cols)) (sites_of b.lattice place) 0
