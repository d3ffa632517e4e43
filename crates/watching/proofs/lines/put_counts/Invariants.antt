use Rattle.std.proofs.Common.{◌≡◌, ◌++◌}
use Rattle.surf_outside.specs.Parts.{parts}
use Rattle.watching.specs.Lines.{count_text}
use Rattle.watching.proofs.lines.put_counts.Given as goal

abbrev pub invariant-loop-species : goal.invariant-loop-species
invariant-loop-species l = l.text.items ≡ l.fn.text.items ++ parts (count_text l.names l.counts) l.species
