use Rattle.std.proofs.Common.{◌≡◌, ◌∷◌, [], ◌++◌, ap, ◌∙◌, append-nil}
use Rattle.std.specs.Prelude.{decimal}
use Rattle.surface_rows.specs.Rows.{name_of}
use Rattle.surf_outside.proofs.LawLemmas.{wrote_by, fails_within, puts_after, puts_as}
use Rattle.trace_text.specs.Lines.{count_of, count_text}
use Rattle.trace_text.proofs.Texts.{count-is}
use Rattle.trace_text.proofs.lines.write_count.Goals as goal

pub returns-in_err-write_name : goal.returns-in_err-write_name
returns-in_err-write_name g c =
    let names = c.args.names.now in
    let sites = c.args.surface.now.sites in
    let species = c.args.species in
    puts_as (count_text names sites species.0) (count-is names sites species.0)
    (fails_within _ (58 ∷ decimal (count_of sites species.0)) c.from_residual.result c.from_residual.ensures.1 c.in_err-write_name.ensures)

pub returns : goal.returns
returns g c =
    let names = c.args.names.now in
    let sites = c.args.surface.now.sites in
    let species = c.args.species in
    let line : c.bytes.result.now ≡ 58 ∷ (decimal (count_of sites species.0) ++ []) = cc (ap decimal (c.from.ensures ∙ c.count.ensures)) in
    let same : c.bytes.result.now ≡ 58 ∷ decimal (count_of sites species.0) = line ∙ ap (λ t. 58 ∷ t) (append-nil (decimal (count_of sites species.0))) in
    puts_as (count_text names sites species.0) (ap (λ t. (32 ∷ name_of names species) ++ t) same ∙ count-is names sites species.0)
    (puts_after c.put.result (wrote_by c.in_ok-write_name.ensures) c.put.ensures)
