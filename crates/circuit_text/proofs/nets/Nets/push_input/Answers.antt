use Rattle.std.proofs.Common.{arith}
use Rattle.circuit_text.specs.declared.kinds.Net.TheVariants as net
use Rattle.circuit_text.proofs.Counts.{inputs_few}
use Rattle.circuit_text.proofs.Grows.{nets_push, below_input}
use Rattle.circuit_text.proofs.nets.Nets.push_input.Goals as goal

pub overflow_add-self : goal.overflow_add-self
overflow_add-self c = omega (arith, inputs_few c.self.inside.nets.items, c.self.invariant.0, c.self.invariant.1)

pub invariant_of-self-inside-2 : goal.invariant_of-self-inside-2
invariant_of-self-inside-2 c =
    rw c.in_ok-push.ensures.items
    (nets_push c.self.inside.nets.items (net.Input c.self.inside.inputs) c.self.inside.nets_are tt, (below_input c.self.inside.inputs c.self.inside.nets.items c.self.inside.inputs_are, tt))
