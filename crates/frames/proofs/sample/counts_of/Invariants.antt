use Rattle.std.proofs.Common.{◌≡◌, take}
use Rattle.frames.proofs.sample.counts_of.Given as goal

abbrev pub invariant-loop-count : goal.invariant-loop-count
invariant-loop-count l = l.all ≡ take l.count-index l.counts
