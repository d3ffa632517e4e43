-- How many of the nets are gates, and how many are inputs.
use Rattle.std.proofs.Common.{ℕ, suc, ◌≤◌, List, [], ◌∷◌, length, arith}
use Rattle.circuit_text.specs.declared.kinds.Net.{Net}
use Rattle.circuit_text.specs.declared.kinds.Net.TheVariants as net
use Rattle.circuit_text.specs.Values.{gates_from, input_numbers}

pub gates_few : (n : ℕ) (nets : List Net) → length (gates_from n nets) ≤ length nets
gates_few n [] = omega arith
gates_few n (net.Input k ∷ nets) = omega (arith, gates_few (suc n) nets)
gates_few n (net.Gate op a b ∷ nets) = omega (arith, gates_few (suc n) nets)

pub inputs_few : (nets : List Net) → length (input_numbers nets) ≤ length nets
inputs_few [] = omega arith
inputs_few (net.Input k ∷ nets) = omega (arith, inputs_few nets)
inputs_few (net.Gate op a b ∷ nets) = omega (arith, inputs_few nets)
