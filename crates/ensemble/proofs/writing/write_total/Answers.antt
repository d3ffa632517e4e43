use Rattle.std.proofs.Common.{◌∷◌, [], ◌++◌, length, codes, ap, ◌∙◌}
use Rattle.std.specs.Prelude.{count_by}
use Rattle.surf_outside.proofs.LawLemmas.{wrote_by, fails_within, puts_after, puts_as}
use Rattle.ensemble.specs.Texts.{total_text}
use Rattle.ensemble.specs.Wording.{three}
use Rattle.ensemble.proofs.Wordings.{total-is}
use Rattle.ensemble.proofs.writing.write_total.Goals as goal

pub returns-in_err-put_three : goal.returns-in_err-put_three
returns-in_err-put_three g c =
    let os = c.args.outcomes.now in
    puts_as (total_text os)
    (ap (λ n. three (codes "total seeds ") (length os) (codes " ended ") n (codes " events ") c.event_sum.result ++ 10 ∷ []) c.ended_count.ensures
    ∙ ap (λ n. three (codes "total seeds ") (length os) (codes " ended ") (count_by (λ o. o.ended) os) (codes " events ") n ++ 10 ∷ []) c.event_sum.ensures
    ∙ total-is os)
    (fails_within _ (10 ∷ []) c.from_residual.result c.from_residual.ensures.1 c.in_err-put_three.ensures)

pub returns : goal.returns
returns g c =
    let os = c.args.outcomes.now in
    puts_as (total_text os)
    (ap (λ n. three (codes "total seeds ") (length os) (codes " ended ") n (codes " events ") c.event_sum.result ++ 10 ∷ []) c.ended_count.ensures
    ∙ ap (λ n. three (codes "total seeds ") (length os) (codes " ended ") (count_by (λ o. o.ended) os) (codes " events ") n ++ 10 ∷ []) c.event_sum.ensures
    ∙ total-is os)
    (puts_after c.put.result (wrote_by c.in_ok-put_three.ensures) c.put.ensures)
