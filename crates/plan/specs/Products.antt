-- What a channel leaves at the sites of its place, and whether it fits them.
use Rattle.std.specs.Prelude.{ℕ, ◌<◌, List, Option, Some, None, Bool, true, false, not, is_some, ◌==◌, ◌&&◌, ◌||◌, if◌then◌else◌, slice_get}
use Rattle.std.specs.Option.{option_map}
use Rattle.surf_kinds.specs.declared.rule.Rule.{Rule}
use Rattle.surf_kinds.specs.declared.rule.Rule.TheVariants.{One, Two}
use Rattle.surf_kinds.specs.declared.site.SpeciesId.{SpeciesId}
use Rattle.surf_kinds.specs.declared.site.Sites.{Sites}
use Rattle.surf_kinds.specs.Channels.{rule_of_channel, way_of_channel}
use Rattle.lattice.specs.Places.{sites_of}
use Rattle.lattice.specs.Channels.{are_ways_same, products}
use Rattle.plan.specs.Network.{Network}

-- what the channel's rule leaves in the channel's way
abbrev pub products_of : List Rule → ℕ → Option (SpeciesId × Option SpeciesId)
products_of rules channel = option_map (products (way_of_channel channel)) (slice_get rules (rule_of_channel channel))

-- the species that the rule leaves have numbers below the number of species
abbrev pub LeavesWithin : ℕ → Rule → Type 0
LeavesWithin species_count (One rate a c) = c.0 < species_count
LeavesWithin species_count (Two rate a b c d) = (c.0 < species_count) × (d.0 < species_count)

abbrev pub has_two : Rule → Bool
has_two (One rate a c) = false
has_two (Two rate a b c d) = true

-- the rule has this way
abbrev pub has_way : ℕ → Rule → Bool
has_way way rule = way == 0 || not (are_ways_same rule)

-- there is a rule with this way, and it has two sites exactly where there is a second one
abbrev pub has_as_many : ℕ → Option Sites → Option Rule → Bool
has_as_many way None rule = false
has_as_many way (Some p) None = false
has_as_many way (Some p) (Some rule) = (if is_some p.second then has_two rule else not (has_two rule)) && has_way way rule

-- the number is a place of the lattice, and the channel is one of a rule with that place's number of sites
abbrev pub fits_place : Network → ℕ → ℕ → Bool
fits_place n place channel = has_as_many (way_of_channel channel) (sites_of n.lattice place) (slice_get n.rules (rule_of_channel channel))
