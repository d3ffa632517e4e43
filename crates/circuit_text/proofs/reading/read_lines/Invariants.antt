use Rattle.std.proofs.Common.{◌≡◌, ◌+◌, ◌≤◌, ◌++◌, length, map, true}
use Rattle.std.specs.List.{flat_map, list_all, sum_by}
use Rattle.circuit_text.specs.Circuits.{defines}
use Rattle.surf_text.specs.Lines.{lines_of}
use Rattle.species.specs.Texts.{is_in}
use Rattle.circuit_text.specs.Lines.{sort_of}
use Rattle.circuit_text.specs.Steps.{state_of, start, run}
use Rattle.circuit_text.proofs.reading.read_lines.Given as goal

abbrev pub invariant-loop-line : goal.invariant-loop-line
invariant-loop-line l = record {
  rest : run (is_in l.all) (map sort_of l.cursor.lines) (l.count + 1) (state_of l.state) ≡ run (is_in l.all) (map sort_of (lines_of l.text)) 1 start;
  same : length l.state.names ≡ length l.state.nets;
  names : l.state.names ++ flat_map defines (map sort_of l.cursor.lines) ≡ flat_map defines (map sort_of (lines_of l.text));
  outputs_known_so_far : list_all (is_in l.all) (state_of l.state).output_names ≡ true;
  few : length l.state.outputs.items + sum_by length l.cursor.lines ≤ length l.text;
  number : l.cursor.number ≡ l.count + 1;
  counted : l.count + length l.cursor.lines ≡ length (lines_of l.text);
}

abbrev pub decreases-loop-line : goal.decreases-loop-line
decreases-loop-line l = length l.cursor.lines
