use Rattle.std.proofs.Common.{◌≡◌, take, length}
use Rattle.frames.proofs.sample.copy_counts.Given as goal

abbrev pub invariant-loop-i : goal.invariant-loop-i
invariant-loop-i l = (length l.into ≡ length l.from) × (take l.i l.into ≡ take l.i l.from)
