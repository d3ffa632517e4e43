use Rattle.std.proofs.Common.{take}
use Rattle.std.specs.List.{flat_map}
use Rattle.surf_outside.specs.Puts.{Wrote}
use Rattle.ensemble.specs.Texts.{outcome_text}
use Rattle.ensemble.proofs.writing.write_outcomes.Given as goal

abbrev pub invariant-loop-outcome : goal.invariant-loop-outcome
invariant-loop-outcome g l =
    Wrote (g.O.Sink.written l.fn.out) (g.O.Sink.written l.out) (g.O.Sink.faults l.fn.out) (g.O.Sink.faults l.out)
    (flat_map (outcome_text l.names) (take l.outcome-index l.outcomes))
