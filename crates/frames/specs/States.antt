-- Frame states: the state after a list of changes.
use Rattle.std.specs.Prelude.{ℕ, ◌+◌, ◌-◌, ◌<◌, List, length, fold, slice_index, slice_set, Option, Some, None}
use Rattle.std.specs.List.{sum_by}
use Rattle.surf_kinds.specs.declared.site.SpeciesId.{SpeciesId}
use Rattle.frames.specs.declared.sample.Change.{Change}
use Rattle.frames.specs.declared.sample.Sample.{Sample}

-- one site less, or one more, of a species
abbrev pub lowered : List ℕ → SpeciesId → List ℕ
lowered counts s = slice_set counts s.0 (slice_index counts s.0 - 1)

abbrev pub raised : List ℕ → SpeciesId → List ℕ
raised counts s = slice_set counts s.0 (slice_index counts s.0 + 1)

-- the same for the old and the new species of a second site, where there is one
abbrev pub lowered_second : List ℕ → Option (SpeciesId × SpeciesId) → List ℕ
lowered_second counts None = counts
lowered_second counts (Some p) = lowered counts p.0

abbrev pub raised_second : List ℕ → Option (SpeciesId × SpeciesId) → List ℕ
raised_second counts None = counts
raised_second counts (Some p) = raised counts p.1

-- the counts without the species that go out
abbrev pub without_old : List ℕ → Change → List ℕ
without_old counts c = lowered_second (lowered counts c.out1) c.second

-- the counts after a change: those of the species that go out are lowered, and those of the species that come in raised
abbrev pub changed : List ℕ → Change → List ℕ
changed counts c = raised_second (raised (without_old counts c) c.in1) c.second

-- the state after one more change
abbrev pub next : Sample → Change → Sample
next s c = record { events = s.events + 1; time = c.time; counts = changed s.counts c }

-- the state before all changes
abbrev pub opening : List ℕ → Sample
opening start = record { events = 0; time = 0; counts = start }

-- the state after a list of changes
abbrev pub after : List ℕ → List Change → Sample
after start changes = fold next (opening start) changes

-- how many sites there are
abbrev pub total : List ℕ → ℕ
total counts = sum_by (λ n. n) counts

-- a second site has the old species, and the new one is known
abbrev pub HasSecond : List ℕ → Option (SpeciesId × SpeciesId) → Type 0
HasSecond counts None = Unit {0}
HasSecond counts (Some p) = (0 < slice_index counts p.0.0) × (p.1.0 < length counts)

-- there are as many sites of each species as the change takes out, and the species that come in are known
abbrev pub MayFollow : Sample → Change → Type 0
MayFollow s c = (0 < slice_index s.counts c.out1.0) × (c.in1.0 < length s.counts) × HasSecond (lowered s.counts c.out1) c.second
