use Rattle.std.proofs.Common.{take}
use Rattle.surface_rows.specs.Rows.{lines_text}
use Rattle.surf_outside.specs.Puts.{Wrote}
use Rattle.manifest_write.proofs.writing.write_lines.Given as goal

abbrev pub invariant-loop-line : goal.invariant-loop-line
invariant-loop-line g l =
    Wrote (g.O.Sink.written l.fn.out) (g.O.Sink.written l.out) (g.O.Sink.faults l.fn.out) (g.O.Sink.faults l.out)
    (lines_text (take l.line-index l.lines))
