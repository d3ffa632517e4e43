use Rattle.std.proofs.Common.{◌≡◌, ◌≤◌, ◌++◌, [], length, map}
use Rattle.std.specs.List.{flat_map}
use Rattle.surf_text.specs.Lines.{lines_of}
use Rattle.bench_read.specs.Lines.{sort_of}
use Rattle.bench_read.specs.Passes.{defines, first_pass}
use Rattle.bench_read.proofs.first.defined_names.Given as goal

abbrev pub invariant-loop-line : goal.invariant-loop-line
invariant-loop-line l = record {
  rest : first_pass l.cursor.number l.definitions.names l.definitions.nets (map sort_of l.cursor.lines) ≡ first_pass 1 [] 0 (map sort_of (lines_of l.text));
  names : l.definitions.names ++ flat_map defines (map sort_of l.cursor.lines) ≡ flat_map defines (map sort_of (lines_of l.text));
  few : l.definitions.nets ≤ 65536;
  named : length l.definitions.names ≤ l.definitions.nets;
}

abbrev pub decreases-loop-line : goal.decreases-loop-line
decreases-loop-line l = length l.cursor.lines
