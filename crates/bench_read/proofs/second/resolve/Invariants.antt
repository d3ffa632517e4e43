use Rattle.std.proofs.Common.{◌≡◌, ◌+◌, ◌++◌, length, map}
use Rattle.std.specs.List.{flat_map}
use Rattle.surf_text.specs.Lines.{lines_of}
use Rattle.species.specs.Texts.{is_in, index_of}
use Rattle.bench_read.specs.Lines.{sort_of}
use Rattle.bench_read.specs.Passes.{puts_out, second_pass}
use Rattle.bench_read.specs.Order.{items_in, lines_from}
use Rattle.bench_read.specs.Readings.{item_of}
use Rattle.bench_read.proofs.second.resolve.Given as goal

abbrev pub invariant-loop-line : goal.invariant-loop-line
invariant-loop-line l = record {
  rest : second_pass (is_in l.names) l.cursor.number (map sort_of l.cursor.lines) ≡ second_pass (is_in l.names) 1 (map sort_of (lines_of l.text));
  items : map item_of l.resolved.items.items ++ flat_map (items_in l.names) (map sort_of l.cursor.lines) ≡ flat_map (items_in l.names) (map sort_of (lines_of l.text));
  lines : l.resolved.lines.items ++ lines_from l.cursor.number (map sort_of l.cursor.lines) ≡ lines_from 1 (map sort_of (lines_of l.text));
  outputs : l.resolved.outputs.items ++ map (index_of l.names) (flat_map puts_out (map sort_of l.cursor.lines)) ≡ map (index_of l.names) (flat_map puts_out (map sort_of (lines_of l.text)));
  number : l.cursor.number ≡ l.resolved.count + 1;
  counted : l.resolved.count + length l.cursor.lines ≡ length (lines_of l.text);
}

abbrev pub decreases-loop-line : goal.decreases-loop-line
decreases-loop-line l = length l.cursor.lines
