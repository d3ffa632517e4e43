-- What events do to the counts of a surface.
use Rattle.std.specs.Prelude.{ℕ, List, [], ◌∷◌, length, Option, Some, None, slice_index_or, slice_set}
use Rattle.surf_kinds.specs.declared.rule.Rule.{Rule}
use Rattle.surf_kinds.specs.declared.site.SiteId.{SiteId}
use Rattle.surf_kinds.specs.declared.site.Sites.{Sites}
use Rattle.surf_kinds.specs.declared.site.SiteState.{SiteState}
use Rattle.surf_kinds.specs.declared.site.SpeciesId.{SpeciesId}
use Rattle.surf_kinds.specs.declared.event.Event.{Event}
use Rattle.lattice.specs.Shape.{Shape}
use Rattle.lattice.specs.Places.{sites_of}
use Rattle.lattice.specs.Surface.{after, after_all, end_time, first_product_of, second_product_of}
use Rattle.trace_text.specs.Lines.{cells_of, counts_of}
use Rattle.frames.specs.declared.sample.Change.{Change}
use Rattle.frames.specs.declared.sample.Sample.{Sample}

-- the species at a site
abbrev pub species_at : List SpeciesId → ℕ → SpeciesId
species_at cells site = slice_index_or cells site (record { 0 = 0 })

-- the old and the new species of the second site, where there is one
abbrev pub second_of : List Rule → List SpeciesId → Event → Option SiteId → Option (SpeciesId × SpeciesId)
second_of rules cells e None = None
second_of rules cells e (Some site) = Some (species_at cells site.0, second_product_of rules e (species_at cells site.0))

abbrev pub change_at : List Rule → List SpeciesId → Event → Option Sites → Change
change_at rules cells e None = record { time = e.time; out1 = record { 0 = 0 }; in1 = record { 0 = 0 }; second = None }
change_at rules cells e (Some p) = record {
  time = e.time;
  out1 = species_at cells p.first.0;
  in1 = first_product_of rules e (species_at cells p.first.0);
  second = second_of rules cells e p.second;
}

-- what is put at the second site of a place, where there is one and a species for it: the old and the new species there, and the species at all sites then

abbrev pub second_change : List SpeciesId → Option SiteId → Option SpeciesId → Option (SpeciesId × SpeciesId)
second_change cells (Some site) (Some species) = Some (species_at cells site.0, species)
second_change cells (Some site) None = None
second_change cells None species = None

abbrev pub second_cells : List SpeciesId → Option SiteId → Option SpeciesId → List SpeciesId
second_cells cells (Some site) (Some species) = slice_set cells site.0 species
second_cells cells (Some site) None = cells
second_cells cells None species = cells

-- what an event does: its time, and the old and the new species of each site of its place
abbrev pub change_of : Shape → List Rule → List SiteState → Event → Change
change_of l rules sites e = change_at rules (cells_of sites) e (sites_of l e.place.0)

-- what each of a list of events does to the surface after those before it
abbrev pub changes_of : Shape → List Rule → List SiteState → List Event → List Change
changes_of l rules sites [] = []
changes_of l rules sites (e ∷ es) = change_of l rules sites e ∷ changes_of l rules (after l rules sites e) es

-- The state after a list of events: how many there were, the time of the last, 0 for none, and how many sites of the surface have each species then.
abbrev pub state_after : Shape → List Rule → ℕ → List SiteState → List Event → Sample
state_after l rules kinds sites es = record { events = length es; time = end_time es; counts = counts_of (after_all l rules sites es) kinds }
