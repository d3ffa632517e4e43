use Rattle.surf_outside.specs.Parts.{parts}
use Rattle.surf_outside.specs.Puts.{Wrote}
use Rattle.ensemble.specs.Texts.{count_text}
use Rattle.ensemble.proofs.writing.write_counts.Given as goal

abbrev pub invariant-loop-species : goal.invariant-loop-species
invariant-loop-species g l =
    Wrote (g.O.Sink.written l.fn.out) (g.O.Sink.written l.out) (g.O.Sink.faults l.fn.out) (g.O.Sink.faults l.out)
    (parts (count_text l.names l.outcome) l.species)
