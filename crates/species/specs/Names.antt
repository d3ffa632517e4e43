-- What a name does to the list of names.
use Rattle.std.specs.Prelude.{ℕ, Bool, not, ◌&&◌, ◌==◌, length, List, Option, position}
use Rattle.std.specs.Option.{option_map}
use Rattle.std.specs.Str.{bytes_eq}
use Rattle.surf_kinds.specs.declared.site.SpeciesId.{SpeciesId}
use Rattle.species.specs.Texts.{is_in, index_of, with_text}

-- the names after a name came: a new one goes last
abbrev pub with_name : List (List ℕ) → List ℕ → List (List ℕ)
with_name names name = with_text names name

-- the number of a name that is in the list
abbrev pub number_of : List (List ℕ) → List ℕ → Option SpeciesId
number_of names name = option_map (λ i. record { 0 = i }) (position (bytes_eq name) names)

-- the number of a name that is in the list, and else the count
abbrev pub place_of : List (List ℕ) → List ℕ → SpeciesId
place_of names name = record { 0 = index_of names name }

-- whether the name is new and there is no room for one more
abbrev pub is_full : List (List ℕ) → List ℕ → Bool
is_full names name = not (is_in names name) && length names == 4096
