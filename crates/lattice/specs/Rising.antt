-- The first places of a list of places.
use Rattle.std.specs.Prelude.{◌≡◌, ℕ, ◌+◌, ◌<◌, List, Option, Some, None, slice_index_or}
use Rattle.surf_kinds.specs.declared.site.SiteId.{SiteId}
use Rattle.surf_kinds.specs.declared.place.Place.{Place}
use Rattle.surf_kinds.specs.declared.place.Step.{Step}
use Rattle.surf_kinds.specs.Steps.{number_of_place}

abbrev pub number_at : List Place → ℕ → ℕ
number_at list k = (slice_index_or list k (record { 0 = 0 })).0

-- the first n places of the list rise
abbrev pub Rise : List Place → ℕ → Type 0
Rise list n = (k : ℕ) → k + 1 < n → number_at list k < number_at list (k + 1)

-- the number is one of the first n
abbrev pub IsListed : List Place → ℕ → ℕ → Type 0
IsListed list n place = (k : ℕ) × (k < n) × (number_at list k ≡ place)

-- the number is that of the site's pair by this step
abbrev pub IsPairOf : Option SiteId → Step → ℕ → Type 0
IsPairOf None step place = ⊥
IsPairOf (Some n) step place = place ≡ number_of_place n.0 step
