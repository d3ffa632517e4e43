-- What applying a change does to a sample, whose numbers stay below 2 ^ 64.
use Rattle.std.specs.Prelude.{ℕ, ◌+◌, ◌-◌, ◌^◌, List, slice_index, slice_set, min, Option, Some, None}
use Rattle.surf_kinds.specs.declared.site.SpeciesId.{SpeciesId}
use Rattle.frames.specs.declared.sample.Change.{Change}
use Rattle.frames.specs.declared.sample.Sample.{Sample}
use Rattle.frames.specs.States.{without_old}

abbrev pub raised_capped : List ℕ → SpeciesId → List ℕ
raised_capped counts s = slice_set counts s.0 (min (slice_index counts s.0 + 1) (2 ^ 64 - 1))

abbrev pub raised_capped_second : List ℕ → Option (SpeciesId × SpeciesId) → List ℕ
raised_capped_second counts None = counts
raised_capped_second counts (Some p) = raised_capped counts p.1

abbrev pub applied : Sample → Change → Sample
applied s c = record { events = min (s.events + 1) (2 ^ 64 - 1); time = c.time; counts = raised_capped_second (raised_capped (without_old s.counts c) c.in1) c.second }
