use Rattle.surf_outside.proofs.LawLemmas.{wrote_by, fails_within, puts_after}
use Rattle.ensemble.specs.Texts.{totals_text}
use Rattle.ensemble.proofs.writing.write_ensemble.Goals as goal

pub returns-in_err-write_outcomes : goal.returns-in_err-write_outcomes
returns-in_err-write_outcomes g c =
    let p = fails_within _ (totals_text c.args.names.now c.args.outcomes.now) c.from_residual.result c.from_residual.ensures.1 c.in_err-write_outcomes.ensures in
    record { ok = p.ok; err = p.err; cause = p.cause }

pub returns : goal.returns
returns g c =
    let p = puts_after c.write_totals.result (wrote_by c.in_ok-write_outcomes.ensures) c.write_totals.ensures in
    record { ok = p.ok; err = p.err; cause = p.cause }
