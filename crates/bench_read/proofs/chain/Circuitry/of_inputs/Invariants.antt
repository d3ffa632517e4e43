use Rattle.std.proofs.Common.{◌≡◌, map}
use Rattle.std.specs.List.{range_with_len}
use Rattle.circuit_text.specs.declared.kinds.Net.TheVariants as net
use Rattle.bench_read.proofs.chain.Circuitry.of_inputs.Given as goal

abbrev pub invariant-loop-number : goal.invariant-loop-number
invariant-loop-number l = record { nets : l.nets.items ≡ map net.Input (range_with_len 0 l.number); at : l.at.items ≡ range_with_len 0 l.number }
