use Rattle.std.proofs.Common.{◌≡◌}
use Rattle.trace_text.specs.Lines.{counts_of}
use Rattle.watching.proofs.publisher.counts_of_surface.Given as goal

abbrev pub invariant-loop-species : goal.invariant-loop-species
invariant-loop-species l = l.counts.items ≡ counts_of l.surface.sites l.species
