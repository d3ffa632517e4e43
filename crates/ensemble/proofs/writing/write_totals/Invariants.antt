use Rattle.std.proofs.Common.{◌++◌}
use Rattle.surf_outside.specs.Parts.{parts}
use Rattle.surf_outside.specs.Puts.{Wrote}
use Rattle.ensemble.specs.Texts.{total_text, species_text}
use Rattle.ensemble.proofs.writing.write_totals.Given as goal

abbrev pub invariant-loop-species : goal.invariant-loop-species
invariant-loop-species g l =
    Wrote (g.O.Sink.written l.fn.out) (g.O.Sink.written l.out) (g.O.Sink.faults l.fn.out) (g.O.Sink.faults l.out)
    (total_text l.outcomes ++ parts (species_text l.names l.outcomes) l.species)
