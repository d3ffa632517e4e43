use Rattle.std.proofs.Common.{take}
use Rattle.std.specs.List.{flat_map}
use Rattle.ensemble.specs.Texts.{outcome_text}
use Rattle.run_writer.specs.Pages.{page, Wrote}
use Rattle.surface_top.proofs.ensembles.put_outcomes.Given as goal

abbrev pub invariant-loop-outcome : goal.invariant-loop-outcome
invariant-loop-outcome g l =
    Wrote (page (g.O.Sink.written l.fn.out) (g.O.Sink.faults l.fn.out) l.fn.buffer) (page (g.O.Sink.written l.out) (g.O.Sink.faults l.out) l.buffer)
    (flat_map (outcome_text l.names) (take l.outcome-index l.outcomes))
