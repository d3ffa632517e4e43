use Rattle.std.proofs.Common.{◌<◌, length, map}
use Rattle.std.specs.List.{All}
use Rattle.bench_read.specs.Placing.{Covers}
use Rattle.bench_read.specs.Readings.{item_of}
use Rattle.bench_read.proofs.placing.next_ready.Given as goal

abbrev pub invariant-loop-number : goal.invariant-loop-number
invariant-loop-number l = record {
  covers : Covers (map item_of l.items) l.order.placed l.ready;
  bound : All (λ d. d < length l.items) l.ready;
}

abbrev pub decreases-loop-number : goal.decreases-loop-number
decreases-loop-number l = length l.ready
