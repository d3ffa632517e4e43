-- A place's number taken apart: its first site, and how it goes on from there.
use Rattle.std.specs.Prelude.{ℕ, ◌+◌, ◌*◌, ◌/◌, ◌%◌, ◌==◌, Option, Some, None, if◌then◌else◌}
use Rattle.surf_kinds.specs.declared.place.Place.{Place}
use Rattle.surf_kinds.specs.declared.place.Step.{Step}
use Rattle.surf_kinds.specs.declared.place.Step.TheVariants.{Alone, East, South, SouthWest}

-- the number of the first site
abbrev pub site_of_place : ℕ → ℕ
site_of_place place = place / 8

abbrev pub step_number : Step → ℕ
step_number Alone = 0
step_number East = 1
step_number South = 2
step_number SouthWest = 3

abbrev pub step_by : ℕ → Option Step
step_by d = if d == 0 then Some Alone else (if d == 1 then Some East else (if d == 2 then Some South else (if d == 3 then Some SouthWest else None)))

-- how a place goes on from its first site; of eight numbers four are steps
abbrev pub step_of_place : ℕ → Option Step
step_of_place place = step_by (place % 8)

-- the number of the place of a site and a step
abbrev pub number_of_place : ℕ → Step → ℕ
number_of_place site step = 8 * site + step_number step

abbrev pub place_at : ℕ → Step → Place
place_at site step = record { 0 = number_of_place site step }

-- the places of so many sites have the numbers below this
abbrev pub end_of_places : ℕ → ℕ
end_of_places sites = 8 * sites
