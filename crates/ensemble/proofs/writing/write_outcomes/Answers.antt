use Rattle.std.proofs.Common.{◌+◌, ◌++◌, drop, take, ap, ◌∙◌}
use Rattle.std.specs.List.{flat_map}
use Rattle.surf_outside.proofs.LawLemmas.{puts_as, fails_behind}
use Rattle.ensemble.specs.Texts.{outcome_text}
use Rattle.ensemble.proofs.Wordings.{texts-within}
use Rattle.ensemble.proofs.writing.write_outcomes.Goals as goal

pub returns-in_err-write_outcome : goal.returns-in_err-write_outcome
returns-in_err-write_outcome g c =
    let text = outcome_text c.args.names.now in
    let os = c.args.outcomes.now in
    let i = c.loop-outcome.outcome-index in
    let after = flat_map text (drop (i + 1) os) in
    puts_as (flat_map text os) (ap (λ o. (flat_map text (take i os) ++ text o) ++ after) c.outcome-item.is ∙ texts-within text os i c.outcome-item.result c.loop-outcome-test.true)
    (fails_behind _ after c.from_residual.result c.from_residual.ensures.1 c.loop-outcome.invariant c.in_err-write_outcome.ensures)
