use Rattle.std.proofs.Common.{◌≡◌, ℕ, ◌<◌, ◌==◌, false}
use Rattle.gate_layout.specs.Nets.{net_of}
use Rattle.gate_layout.proofs.feeds.gate_at.Given as goal

abbrev pub invariant-loop-gate : goal.invariant-loop-gate
invariant-loop-gate l = (k : ℕ) → k < l.gate → (net_of l.circuit.nets k == l.net) ≡ false
