-- Facts by cases are propositions.
use Rattle.std.specs.Prelude.{ℕ, List, Some, None, true, false}
use Rattle.std.specs.Coded.{×_prop, Unit-prop, Π_prop, le_prop, Coded-set, coded_bool}
use Rattle.circuit_text.specs.declared.kinds.Net.{Net}
use Rattle.circuit_text.specs.declared.kinds.Net.TheVariants as net
use Rattle.circuit_text.specs.Values.{has_two, IsNetAt, AreNets, IsBelow, AreInputsBelow}

pub net_at_prop : (n : ℕ) (x : Net) → IsProp (IsNetAt n x)
net_at_prop n (net.Input k) = Unit-prop
net_at_prop n (net.Gate op a None) = ×_prop le_prop (Coded-set coded_bool (has_two op) false)
net_at_prop n (net.Gate op a (Some b)) = λ p q. λ i. (le_prop p.0 q.0 i, le_prop p.1 q.1 i, Coded-set coded_bool (has_two op) true p.2 q.2 i)

pub nets_prop : (nets : List Net) → IsProp (AreNets nets)
nets_prop nets = Π_prop (λ n. Π_prop (λ x. Π_prop (λ is. net_at_prop n x)))

pub below_prop : (count : ℕ) (x : Net) → IsProp (IsBelow count x)
below_prop count (net.Input k) = le_prop
below_prop count (net.Gate op a b) = Unit-prop

pub inputs_prop : (count : ℕ) (nets : List Net) → IsProp (AreInputsBelow count nets)
inputs_prop count nets = Π_prop (λ n. Π_prop (λ x. Π_prop (λ is. below_prop count x)))
