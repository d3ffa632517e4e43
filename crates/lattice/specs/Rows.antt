-- The rows that the sites of a place stand in: that of the first site, or that row and the next one.
use Rattle.std.specs.Prelude.{◌≡◌, ℕ, ◌*◌, ◌/◌, ◌<◌, Some, Bool, true, false, ◌⊎◌}
use Rattle.std.specs.Option.{option_map_or}
use Rattle.surf_kinds.specs.declared.place.Step.{Step}
use Rattle.surf_kinds.specs.declared.place.Step.TheVariants.{Alone, East, South, SouthWest}
use Rattle.surf_kinds.specs.Steps.{site_of_place, step_of_place}
use Rattle.lattice.specs.Shape.{Shape}
use Rattle.lattice.specs.Places.{forward, HasSite}

-- the row of a place's first site
abbrev pub row_of_place : Shape → ℕ → ℕ
row_of_place l place = site_of_place place / l.cols

-- a step to the next row
abbrev pub leads_down : Step → Bool
leads_down Alone = false
leads_down East = false
leads_down South = true
leads_down SouthWest = true

-- the step of the place leads to the next row
abbrev pub goes_down : ℕ → Bool
goes_down place = option_map_or leads_down (step_of_place place) false

-- the site is in the row of the place's first site or, where its step leads down, in the next row
abbrev pub IsInRows : Shape → ℕ → ℕ → Type 0
IsInRows l place site =
    (site / l.cols ≡ row_of_place l place)
    ⊎ ((goes_down place ≡ true) × (forward l.wrap l.rows (row_of_place l place) ≡ Some (site / l.cols)))

-- the second site of a place whose step leads down
pub record Lower (l : Shape) (place : ℕ) : Type 0 where
  pub site : ℕ
  pub has : HasSite l place site
  pub within : site < l.rows * l.cols
  pub row : forward l.wrap l.rows (row_of_place l place) ≡ Some (site / l.cols)

-- a place that has the site, and its first site in this row
pub record Upper (l : Shape) (site row : ℕ) : Type 0 where
  pub place : ℕ
  pub has : HasSite l place site
  pub row_is : row_of_place l place ≡ row
