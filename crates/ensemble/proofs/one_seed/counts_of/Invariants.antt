use Rattle.std.proofs.Common.{◌≡◌}
use Rattle.trace_text.specs.Lines.{counts_of}
use Rattle.ensemble.proofs.one_seed.counts_of.Given as goal

abbrev pub invariant-loop-species : goal.invariant-loop-species
invariant-loop-species l = l.counts ≡ counts_of l.surface.sites l.species
