use Rattle.std.proofs.Common.{◌++◌, decimal, ap, ◌∙◌}
use Rattle.surf_outside.proofs.LawLemmas.{wrote_by, fails_within, puts_after, puts_as}
use Rattle.ensemble.proofs.writing.put_number.Goals as goal

pub returns-in_err-put : goal.returns-in_err-put
returns-in_err-put g c = fails_within _ (decimal c.args.number) c.from_residual.result c.from_residual.ensures.1 c.in_err-put.ensures

pub returns : goal.returns
returns g c =
    puts_as (c.args.word.now ++ decimal c.args.number) (ap (λ t. c.args.word.now ++ t) (c.bytes.ensures ∙ c.of.ensures))
    (puts_after c.put-2.result (wrote_by c.in_ok-put.ensures) c.put-2.ensures)
