use Rattle.std.proofs.Common.{◌≡◌, ℕ, ◌<◌, ◌==◌, length, get_or, take, count_by}
use Rattle.surf_kinds.specs.declared.site.SpeciesId.{SpeciesId}
use Rattle.surface_state.proofs.counts.counts_of.Given as goal

abbrev pub invariant-loop-cell : goal.invariant-loop-cell
invariant-loop-cell l =
    (length l.counts.items ≡ l.species_count)
    × ((k d : ℕ) → k < l.species_count → get_or l.counts.items k d ≡ count_by (λ (s : SpeciesId). s.0 == k) (take l.cell-index l.cells))
