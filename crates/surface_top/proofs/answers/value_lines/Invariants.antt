use Rattle.std.proofs.Common.{◌≡◌, ◌++◌, drop}
use Rattle.std.specs.List.{flat_map}
use Rattle.surface_top.specs.ValueText.{value_line, outputs_text}
use Rattle.surface_top.proofs.answers.value_lines.Given as goal

abbrev pub invariant-loop-i : goal.invariant-loop-i
invariant-loop-i l = l.text.items ++ flat_map (value_line l.circuit l.values) (drop l.i l.circuit.outputs) ≡ outputs_text l.circuit l.values
