use Rattle.std.proofs.Common.{map, take}
use Rattle.surf_outside.specs.Puts.{Wrote}
use Rattle.bench_read.specs.Chains.{output_line, ended_lines}
use Rattle.bench_read.proofs.writing.write_outputs.Given as goal

abbrev pub invariant-loop-output : goal.invariant-loop-output
invariant-loop-output g l =
    Wrote (g.O.Sink.written l.fn.out) (g.O.Sink.written l.out) (g.O.Sink.faults l.fn.out) (g.O.Sink.faults l.out)
    (ended_lines (take l.output-index (map output_line l.outputs)))
