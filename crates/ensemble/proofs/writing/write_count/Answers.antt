use Rattle.std.proofs.Common.{◌∷◌, ◌++◌, decimal, ap, ◌∙◌}
use Rattle.surface_rows.specs.Rows.{name_of}
use Rattle.surf_outside.proofs.LawLemmas.{wrote_by, wrote_more, fails_within, fails_behind, puts_after, puts_as}
use Rattle.ensemble.specs.Texts.{count_in, count_text}
use Rattle.ensemble.proofs.Wordings.{count-is}
use Rattle.ensemble.proofs.writing.write_count.Goals as goal

pub returns-in_err-put : goal.returns-in_err-put
returns-in_err-put g c =
    let names = c.args.names.now in
    let o = c.args.outcome.now in
    let species = c.args.species in
    puts_as (count_text names o species.0) (count-is names o species.0)
    (fails_within _ (name_of names species ++ 58 ∷ decimal (count_in species.0 o)) c.from_residual.result c.from_residual.ensures.1 c.in_err-put.ensures)

pub returns-in_err-put-2 : goal.returns-in_err-put-2
returns-in_err-put-2 g c =
    let names = c.args.names.now in
    let o = c.args.outcome.now in
    let species = c.args.species in
    let number = 58 ∷ decimal (count_in species.0 o) in
    puts_as (count_text names o species.0) (ap (λ t. 32 ∷ (t ++ number)) c.name_bytes.ensures ∙ count-is names o species.0)
    (fails_behind _ number c.from_residual-in_err-put-2.result c.from_residual-in_err-put-2.ensures.1 (wrote_by c.in_ok-put.ensures) c.in_err-put-2.ensures)

pub returns : goal.returns
returns g c =
    let names = c.args.names.now in
    let o = c.args.outcome.now in
    let species = c.args.species in
    let number = 58 ∷ decimal (count_in species.0 o) in
    puts_as (count_text names o species.0)
    (ap (λ n. 32 ∷ (c.name_bytes.result.now ++ 58 ∷ decimal n)) c.count_in.ensures ∙ ap (λ t. 32 ∷ (t ++ number)) c.name_bytes.ensures ∙ count-is names o species.0)
    (puts_after c.put_number.result (wrote_more (wrote_by c.in_ok-put.ensures) (wrote_by c.in_ok-put-2.ensures)) c.put_number.ensures)
