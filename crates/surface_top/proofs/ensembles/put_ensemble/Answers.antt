use Rattle.std.specs.List.{flat_map}
use Rattle.ensemble.specs.Texts.{outcome_text, totals_text}
use Rattle.run_writer.proofs.LawLemmas.{puts_after, stopped_longer}
use Rattle.surface_top.proofs.ensembles.put_ensemble.Goals as goal

pub returns-in-Ok-clause-puts : goal.returns-in-Ok-clause-puts
returns-in-Ok-clause-puts g c =
    let names = c.args.names.now in
    let os = c.args.outcomes.now in
    puts_after _ _ _ (flat_map (outcome_text names) os) (totals_text names os) c.put_totals.result c.in-Ok.ensures c.put_totals.ensures.puts

pub returns-in-Err-clause-puts : goal.returns-in-Err-clause-puts
returns-in-Err-clause-puts g c =
    let names = c.args.names.now in
    let os = c.args.outcomes.now in
    stopped_longer _ _ (flat_map (outcome_text names) os) (totals_text names os) c.in-Err.stop c.in-Err.ensures
