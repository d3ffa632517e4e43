use Rattle.std.proofs.Common.{◌≡◌, ◌+◌, ◌<◌, ◌∷◌, ◌++◌, suc, length, map, drop, get_or, sym, ap, ◌∙◌, arith, subst}
use Rattle.std.specs.Prelude.{All}
use Rattle.std.proofs.lemmas.List.Elements.{All-get_or, All-tail}
use Rattle.surf_kinds.specs.declared.site.SpeciesId.{SpeciesId}
use Rattle.surface_rows.specs.Rows.{name_of, spaced}
use Rattle.surf_outside.proofs.LawLemmas.{wrote_by, wrote_as, wrote_more, puts_done, puts_as, fails_within, fails_behind}
use Rattle.surface_rows.proofs.Spaced.{behind, first_names, names-one, names-more, names-within, names-all}
use Rattle.surface_rows.proofs.rows.write_names.Goals as goal

pub returns-in_err-put : goal.returns-in_err-put
returns-in_err-put g c =
    let names = c.args.names.now in
    let first = c.in-Some.first.now in
    let others = c.in-Some.others.now in
    let is : c.args.ids.now ≡ first ∷ others = c.in-Some.ensures.cases.0 in
    puts_as (spaced (map (name_of names) c.args.ids.now))
    (ap (λ t. t ++ behind names others) c.name_bytes.ensures ∙ ap (λ ids. spaced (map (name_of names) ids)) (sym is))
    (fails_within _ (behind names others) c.from_residual.result c.from_residual.ensures.1 c.in_err-put.ensures)

pub loop-id-init : goal.loop-id-init
loop-id-init g c =
    let names = c.args.names.now in
    let first = c.in-Some.first.now in
    let others = c.in-Some.others.now in
    let is : c.args.ids.now ≡ first ∷ others = c.in-Some.ensures.cases.0 in
    wrote_as (first_names names c.args.ids.now 1)
    (c.name_bytes.ensures ∙ names-one names first others ∙ ap (λ ids. first_names names ids 1) (sym is))
    (wrote_by c.in_ok-put.ensures)

pub name_bytes-requires-in-loop-id : goal.name_bytes-requires-in-loop-id
name_bytes-requires-in-loop-id g c =
    let P : SpeciesId → Type 0 = λ s. s.0 < length c.args.names.now in
    All-get_or P c.in-Some.others.now c.loop-id.id-index (record { 0 = 0 }) c.loop-id-test.true
    (All-tail P c.in-Some.first.now c.in-Some.others.now (subst (All P) c.in-Some.ensures.cases.0 c.requires))

pub returns-in_err-write_next : goal.returns-in_err-write_next
returns-in_err-write_next g c =
    let names = c.args.names.now in
    let first = c.in-Some.first.now in
    let others = c.in-Some.others.now in
    let i = c.loop-id.id-index in
    let id = get_or others i (record { 0 = 0 }) in
    let is : c.args.ids.now ≡ first ∷ others = c.in-Some.ensures.cases.0 in
    let same = c.name_bytes-in-loop-id.ensures in
    puts_as (spaced (map (name_of names) c.args.ids.now))
    (ap (λ t. (first_names names c.args.ids.now (suc i) ++ 32 ∷ t) ++ behind names (drop (i + 1) others)) same
    ∙ ap (λ ids. (first_names names ids (suc i) ++ 32 ∷ name_of names id) ++ behind names (drop (i + 1) others)) is
    ∙ names-within names first others i (record { 0 = 0 }) c.loop-id-test.true
    ∙ ap (λ ids. spaced (map (name_of names) ids)) (sym is))
    (fails_behind _ (behind names (drop (i + 1) others)) c.from_residual-in_err-write_next.result c.from_residual-in_err-write_next.ensures.1 c.loop-id.invariant c.in_err-write_next.ensures)

pub loop-id-preserved : goal.loop-id-preserved
loop-id-preserved g c =
    let names = c.args.names.now in
    let first = c.in-Some.first.now in
    let others = c.in-Some.others.now in
    let i = c.loop-id.id-index in
    let id = get_or others i (record { 0 = 0 }) in
    let is : c.args.ids.now ≡ first ∷ others = c.in-Some.ensures.cases.0 in
    let same = c.name_bytes-in-loop-id.ensures in
    wrote_as (first_names names c.args.ids.now (suc (i + 1)))
    (ap (λ t. first_names names c.args.ids.now (suc i) ++ 32 ∷ t) same
    ∙ ap (λ ids. first_names names ids (suc i) ++ 32 ∷ name_of names id) is
    ∙ names-more names first others i (record { 0 = 0 }) c.loop-id-test.true
    ∙ ap (λ ids. first_names names ids (suc (i + 1))) (sym is))
    (wrote_more c.loop-id.invariant (wrote_by c.in_ok-write_next.ensures))

pub returns : goal.returns
returns g c =
    let names = c.args.names.now in
    puts_done (wrote_as (spaced (map (name_of names) c.args.ids.now))
    (names-all names c.args.ids.now (suc c.loop-id.id-index) (omega (arith, c.loop-id-test.false, c.in-Some.ensures.cases.1)))
    c.loop-id.invariant)
