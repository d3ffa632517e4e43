use Rattle.std.proofs.Common.{◌≡◌, map, take}
use Rattle.bench_read.specs.Order.{place_of}
use Rattle.bench_read.proofs.bench.places_of.Given as goal

abbrev pub invariant-loop-number : goal.invariant-loop-number
invariant-loop-number l = l.places.items ≡ map (place_of l.order.placed) (take l.number-index l.numbers)
