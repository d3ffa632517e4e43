use Rattle.std.proofs.Common.{◌≡◌, [], length, map}
use Rattle.std.specs.Prelude.{fold}
use Rattle.std.specs.List.{flat_map}
use Rattle.surf_text.specs.Lines.{lines_of}
use Rattle.species.specs.Texts.{with_text}
use Rattle.circuit_text.specs.Lines.{sort_of}
use Rattle.circuit_text.specs.Circuits.{defines}
use Rattle.circuit_text.proofs.defined.defined_names.Given as goal

abbrev pub invariant-loop-line : goal.invariant-loop-line
invariant-loop-line l = record {
  rest : fold with_text l.all (flat_map defines (map sort_of l.cursor.lines)) ≡ fold with_text [] (flat_map defines (map sort_of (lines_of l.text)));
}

abbrev pub decreases-loop-line : goal.decreases-loop-line
decreases-loop-line l = length l.cursor.lines
