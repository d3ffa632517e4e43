use Rattle.std.proofs.Common.{suc}
use Rattle.surf_outside.specs.Puts.{Wrote}
use Rattle.surface_rows.proofs.Spaced.{first_names}
use Rattle.surface_rows.proofs.rows.write_names.Given as goal

abbrev pub invariant-loop-id : goal.invariant-loop-id
invariant-loop-id g l =
    Wrote (g.O.Sink.written l.fn.out) (g.O.Sink.written l.out) (g.O.Sink.faults l.fn.out) (g.O.Sink.faults l.out)
    (first_names l.names l.ids (suc l.id-index))
