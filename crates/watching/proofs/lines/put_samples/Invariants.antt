use Rattle.std.proofs.Common.{◌≡◌, ◌++◌, slice_index_or}
use Rattle.surf_outside.specs.Parts.{parts}
use Rattle.watching.specs.Lines.{sample_line, no_sample}
use Rattle.watching.proofs.lines.put_samples.Given as goal

abbrev pub invariant-loop-i : goal.invariant-loop-i
invariant-loop-i l = l.text.items ≡ l.fn.text.items ++ parts (λ number. sample_line l.names l.viewer number (slice_index_or l.samples number no_sample)) l.i
