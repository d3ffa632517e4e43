use Rattle.std.proofs.Common.{◌≡◌, ◌+◌, ◌∷◌, [], ◌++◌, length, sym, ap, ◌∙◌, append_assoc, append-nil, arith}
use Rattle.std.specs.Prelude.{codes}
use Rattle.surf_outside.specs.Parts.{parts}
use Rattle.surf_outside.proofs.LawLemmas.{parts-more, parts-within, wrote_by, fails_within, fails_behind, puts_after, puts_as, wrote_as, wrote_more}
use Rattle.trace_text.specs.Lines.{count_text, counts_text}
use Rattle.trace_text.proofs.Texts.{counts-is}
use Rattle.trace_text.proofs.lines.write_counts.Goals as goal

pub returns-in_err-put : goal.returns-in_err-put
returns-in_err-put g c =
    let names = c.args.names.now in
    let sites = c.args.surface.now.sites in
    let counts = parts (count_text names sites) (length names) in
    puts_as (counts_text names sites) (sym (append_assoc (codes "counts") counts (10 ∷ [])) ∙ counts-is names sites)
    (fails_within _ (counts ++ 10 ∷ []) c.from_residual.result c.from_residual.ensures.1 c.in_err-put.ensures)

pub loop-species-init : goal.loop-species-init
loop-species-init g c =
    wrote_as (codes "counts" ++ parts (count_text c.args.names.now c.args.surface.now.sites) 0) (sym (append-nil (codes "counts"))) (wrote_by c.in_ok-put.ensures)

pub returns-in_err-write_count : goal.returns-in_err-write_count
returns-in_err-write_count g c =
    let names = c.args.names.now in
    let sites = c.args.surface.now.sites in
    let part = count_text names sites in
    let species = c.loop-species.species in
    let within = parts-within part species (length names) (omega (arith, c.loop-species-test.true)) in
    puts_as (counts_text names sites)
    (sym (append_assoc ((codes "counts" ++ parts part species) ++ part species) within.0 (10 ∷ []))
    ∙ ap (λ t. t ++ 10 ∷ [])
    (ap (λ t. t ++ within.0) (append_assoc (codes "counts") (parts part species) (part species))
    ∙ append_assoc (codes "counts") (parts part species ++ part species) within.0
    ∙ ap (λ t. codes "counts" ++ t) (sym within.1))
    ∙ counts-is names sites)
    (fails_behind _ (within.0 ++ 10 ∷ []) c.from_residual-in_err-write_count.result c.from_residual-in_err-write_count.ensures.1 c.loop-species.invariant c.in_err-write_count.ensures)

pub loop-species-preserved : goal.loop-species-preserved
loop-species-preserved g c =
    let names = c.args.names.now in
    let sites = c.args.surface.now.sites in
    let part = count_text names sites in
    let species = c.loop-species.species in
    wrote_as (codes "counts" ++ parts part (species + 1))
    (append_assoc (codes "counts") (parts part species) (part species) ∙ ap (λ t. codes "counts" ++ t) (sym (parts-more part species)))
    (wrote_more {x = codes "counts" ++ parts part species} {y = part species} c.loop-species.invariant (wrote_by c.in_ok-write_count.ensures))

pub returns : goal.returns
returns g c =
    let names = c.args.names.now in
    let sites = c.args.surface.now.sites in
    let part = count_text names sites in
    let all : c.loop-species.species ≡ length names = omega (arith, c.loop-species-test.false) in
    puts_as (counts_text names sites)
    (ap (λ n. codes "counts" ++ parts part n ++ 10 ∷ []) all ∙ counts-is names sites)
    (puts_after {x = codes "counts" ++ parts part c.loop-species.species} c.put-2.result c.loop-species.invariant c.put-2.ensures)
