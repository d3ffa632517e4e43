use Rattle.std.proofs.Common.{◌≡◌, [], replicate}
use Rattle.bench_read.specs.Readings.{lists_of}
use Rattle.bench_read.proofs.users.empty_lists.Given as goal

abbrev pub invariant-loop : goal.invariant-loop
invariant-loop l = lists_of l.lists.items ≡ replicate l.counter []
