-- What stands at the sites of an event that is offered.
use Rattle.std.specs.Prelude.{Option}
use Rattle.std.specs.Option.{option_map}
use Rattle.surf_kinds.specs.declared.site.SpeciesId.{SpeciesId}
use Rattle.surf_kinds.specs.declared.site.SiteState.{SiteState}

-- the species of the second site, where there is one
abbrev pub species_of : Option SiteState → Option SpeciesId
species_of t = option_map (λ (x : SiteState). x.species) t
