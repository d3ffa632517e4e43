-- The channels of a place: the rules whose reactants stand at its sites, with the way in which they stand.
use Rattle.std.specs.Prelude.{ℕ, Option, Some, None, Bool, true, false, not, ◌==◌, ◌&&◌, nat_lt, if◌then◌else◌}
use Rattle.surf_kinds.specs.Rates.{Fraction}
use Rattle.surf_kinds.specs.declared.rule.Rule.{Rule}
use Rattle.surf_kinds.specs.declared.rule.Rule.TheVariants.{One, Two}
use Rattle.surf_kinds.specs.declared.site.SpeciesId.{SpeciesId}

abbrev pub rate_of : Rule → Fraction
rate_of (One rate a c) = rate
rate_of (Two rate a b c d) = rate

-- the two ways of the rule are the same; a rule of one site has one way alone
abbrev pub are_ways_same : Rule → Bool
are_ways_same (One rate a c) = true
are_ways_same (Two rate a b c d) = a.0 == b.0 && c.0 == d.0

-- what the rule leaves in this way: the new species of the first site and, for a rule of two sites, of the second
abbrev pub products : ℕ → Rule → SpeciesId × Option SpeciesId
products way (One rate a c) = (c, None)
products way (Two rate a b c d) = (if way == 0 then c else d, Some (if way == 0 then d else c))

-- the rule has a rate above 0, and its reactants stand at the sites of a place, of these species, in this way: way 0
-- as they are written, way 1 the other way round. A rule whose two ways are the same has way 0 alone.
abbrev pub matches : Rule → ℕ → SpeciesId → Option SpeciesId → Bool
matches (One rate a c) way s None = way == 0 && (nat_lt 0 rate.p && s.0 == a.0)
matches (One rate a c) way s (Some t) = false
matches (Two rate a b c d) way s None = false
matches (Two rate a b c d) way s (Some t) =
    nat_lt 0 rate.p &&
    (if way == 0
    then s.0 == a.0 && t.0 == b.0
    else s.0 == b.0 && t.0 == a.0 && not (are_ways_same (Two rate a b c d)))
