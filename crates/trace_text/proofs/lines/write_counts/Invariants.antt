use Rattle.std.proofs.Common.{◌++◌}
use Rattle.std.specs.Prelude.{codes}
use Rattle.surf_outside.specs.Parts.{parts}
use Rattle.surf_outside.specs.Puts.{Wrote}
use Rattle.trace_text.specs.Lines.{count_text}
use Rattle.trace_text.proofs.lines.write_counts.Given as goal

abbrev pub invariant-loop-species : goal.invariant-loop-species
invariant-loop-species g l =
    Wrote (g.O.Sink.written l.fn.out) (g.O.Sink.written l.out) (g.O.Sink.faults l.fn.out) (g.O.Sink.faults l.out)
    (codes "counts" ++ parts (count_text l.names l.surface.sites) l.species)
