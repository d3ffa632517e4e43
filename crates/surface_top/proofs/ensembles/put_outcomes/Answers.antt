use Rattle.std.proofs.Common.{arith}
use Rattle.ensemble.specs.Texts.{outcome_text}
use Rattle.run_writer.proofs.LawLemmas.{wrote_nothing}
use Rattle.surface_top.proofs.SeedLines.{items_step, items_stop, items_all}
use Rattle.surface_top.proofs.ensembles.put_outcomes.Goals as goal

pub loop-outcome-init : goal.loop-outcome-init
loop-outcome-init g c = wrote_nothing _

pub loop-outcome-preserved : goal.loop-outcome-preserved
loop-outcome-preserved g c =
    items_step (outcome_text c.args.names.now) c.args.outcomes.now c.loop-outcome.outcome-index c.outcome-item.result _ _ _ c.outcome-item.is c.loop-outcome-test.true c.loop-outcome.invariant c.in-Ok.ensures

pub returns-in-Err : goal.returns-in-Err
returns-in-Err g c =
    items_stop (outcome_text c.args.names.now) c.args.outcomes.now c.loop-outcome.outcome-index c.outcome-item.result _ _ _ c.in-Err.stop c.outcome-item.is c.loop-outcome-test.true c.loop-outcome.invariant c.in-Err.ensures

pub returns : goal.returns
returns g c = items_all (outcome_text c.args.names.now) c.args.outcomes.now c.loop-outcome.outcome-index _ _ (omega (arith, c.loop-outcome-test.false)) c.loop-outcome.invariant
