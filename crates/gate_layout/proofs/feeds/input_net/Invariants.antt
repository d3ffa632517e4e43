use Rattle.std.proofs.Common.{◌≡◌, ℕ, ◌<◌, false, length, get_or}
use Rattle.circuit_text.specs.declared.kinds.Net.TheVariants as net
use Rattle.gate_layout.specs.Nets.{is_input}
use Rattle.gate_layout.proofs.feeds.input_net.Given as goal

abbrev pub invariant-loop-net : goal.invariant-loop-net
invariant-loop-net l = (k : ℕ) → k < l.net → k < length l.circuit.nets → is_input l.number (get_or l.circuit.nets k (net.Input 0)) ≡ false
