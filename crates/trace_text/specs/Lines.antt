-- The lines of a run: its events, its surfaces, its end and its limit.
use Rattle.std.specs.Prelude.{ℕ, ◌/◌, ◌%◌, List, [], ◌∷◌, ◌++◌, map, length, count_by, decimal, codes, ◌==◌, Option, Some, None, slice_index_or}
use Rattle.std.specs.List.{flat_map, range_with_len}
use Rattle.surf_kinds.specs.declared.event.Event.{Event}
use Rattle.surf_kinds.specs.declared.site.SiteState.{SiteState}
use Rattle.surf_kinds.specs.declared.site.SpeciesId.{SpeciesId}
use Rattle.surf_kinds.specs.declared.place.Step.{Step}
use Rattle.surf_kinds.specs.declared.place.Step.TheVariants.{Alone, East, South, SouthWest}
use Rattle.surf_kinds.specs.Channels.{rule_of_channel, way_of_channel}
use Rattle.surf_kinds.specs.Steps.{site_of_place, step_of_place}
use Rattle.lattice.specs.Shape.{Shape}
use Rattle.surface_rows.specs.Rows.{rows_text}

-- the direction of a place: its site alone, or the pair with the neighbour there
abbrev pub direction : Option Step → List ℕ
direction (Some Alone) = codes "self"
direction (Some East) = codes "east"
direction (Some South) = codes "south"
direction (Some SouthWest) = codes "southwest"
direction None = []

-- event <tick> <row> <col> <dir> <rule> <way>, with the row and the column of the place's first site
unfoldable pub event_text : ℕ → Event → List ℕ
event_text cols e =
    codes "event " ++ decimal e.time ++ codes " " ++ decimal (site_of_place e.place.0 / cols) ++ codes " " ++ decimal (site_of_place e.place.0 % cols) ++ codes " "
    ++ direction (step_of_place e.place.0) ++ codes " " ++ decimal (rule_of_channel e.channel) ++ codes " " ++ decimal (way_of_channel e.channel) ++ 10 ∷ []

-- surface <tick> <events>, with the number of events so far
unfoldable pub heading_text : ℕ → ℕ → List ℕ
heading_text tick events = codes "surface " ++ decimal tick ++ codes " " ++ decimal events ++ 10 ∷ []

-- the species at the sites
abbrev pub cells_of : List SiteState → List SpeciesId
cells_of sites = map (λ s. s.species) sites

-- how many sites have the species
abbrev pub count_of : List SiteState → ℕ → ℕ
count_of sites species = count_by (λ s. s.species.0 == species) sites

-- the counts of all species, in their order
abbrev pub counts_of : List SiteState → ℕ → List ℕ
counts_of sites species_count = map (count_of sites) (range_with_len 0 species_count)

-- a species with its count: <name>:<count>, with a space before it
unfoldable pub count_text : List (List ℕ) → List SiteState → ℕ → List ℕ
count_text names sites species = 32 ∷ slice_index_or names species [] ++ 58 ∷ decimal (count_of sites species)

-- counts <name>:<count> .., with every species in its order
unfoldable pub counts_text : List (List ℕ) → List SiteState → List ℕ
counts_text names sites = codes "counts" ++ flat_map (count_text names sites) (range_with_len 0 (length names)) ++ 10 ∷ []

-- a surface: its heading, its rows and its counts
unfoldable pub surface_text : List (List ℕ) → Shape → List SiteState → ℕ → ℕ → List ℕ
surface_text names l sites tick events = heading_text tick events ++ rows_text names l.rows l.cols (cells_of sites) ++ counts_text names sites

-- end <until> <events>
unfoldable pub end_text : ℕ → ℕ → List ℕ
end_text until events = codes "end " ++ decimal until ++ codes " " ++ decimal events ++ 10 ∷ []

-- limit <limit>
unfoldable pub limit_text : ℕ → List ℕ
limit_text limit = codes "limit " ++ decimal limit ++ 10 ∷ []
