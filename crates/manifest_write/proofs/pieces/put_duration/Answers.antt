use Rattle.std.proofs.Common.{◌++◌, ◌%◌, ap, ◌∙◌}
use Rattle.manifest_write.specs.Canon.{duration_text, fraction_text}
use Rattle.surf_outside.proofs.LawLemmas.{wrote_by, puts_as, puts_after, fails_within}
use Rattle.manifest_write.proofs.pieces.put_duration.Goals as goal

pub returns-in_err-put : goal.returns-in_err-put
returns-in_err-put g c =
    let rest = fraction_text (c.args.ticks % 1000000) in
    puts_as (duration_text c.args.ticks) (ap (λ t. t ++ rest) (c.bytes.ensures ∙ c.of.ensures))
    (fails_within _ rest c.from_residual.result c.from_residual.ensures.1 c.in_err-put.ensures)

pub returns : goal.returns
returns g c =
    let rest = fraction_text (c.args.ticks % 1000000) in
    puts_as (duration_text c.args.ticks) (ap (λ t. t ++ rest) (c.bytes.ensures ∙ c.of.ensures))
    (puts_after c.put_fraction.result (wrote_by c.in_ok-put.ensures) c.put_fraction.ensures)
