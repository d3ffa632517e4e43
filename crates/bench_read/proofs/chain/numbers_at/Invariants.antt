use Rattle.std.proofs.Common.{◌≡◌, take}
use Rattle.bench_read.specs.Chains.{numbers_at}
use Rattle.bench_read.proofs.chain.numbers_at.Given as goal

abbrev pub invariant-loop-place : goal.invariant-loop-place
invariant-loop-place l = l.numbers.items ≡ numbers_at l.at (take l.place-index l.places)
