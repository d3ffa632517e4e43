use Rattle.std.proofs.Common.{◌≡◌, [], replicate, vec_len}
use Rattle.border.specs.Stacked.{stacks_of}
use Rattle.border.proofs.stacks.Stacks.new.Given as goal

abbrev pub invariant-loop : goal.invariant-loop
invariant-loop l = (vec_len l.stacks ≡ l.counter) × (stacks_of l.stacks.items ≡ replicate l.counter [])
