use Rattle.std.proofs.Common.{◌≡◌, ◌+◌, ◌++◌, length, sym, ap, ◌∙◌, append_assoc, append-nil, arith}
use Rattle.surf_outside.specs.Parts.{parts}
use Rattle.surf_outside.proofs.LawLemmas.{parts-more, parts-within, wrote_by, wrote_as, wrote_more, fails_within, fails_behind, puts_as, puts_done}
use Rattle.ensemble.specs.Texts.{total_text, species_text, totals_text}
use Rattle.ensemble.proofs.Spreading.{events_fit}
use Rattle.ensemble.proofs.writing.write_totals.Goals as goal

pub write_total-requires : goal.write_total-requires
write_total-requires g c = events_fit (length c.args.names.now) c.args.outcomes.now c.requires.few c.requires.within

pub returns-in_err-write_total : goal.returns-in_err-write_total
returns-in_err-write_total g c =
    fails_within _ (parts (species_text c.args.names.now c.args.outcomes.now) (length c.args.names.now)) c.from_residual.result c.from_residual.ensures.1 c.in_err-write_total.ensures

pub loop-species-init : goal.loop-species-init
loop-species-init g c =
    wrote_as (total_text c.args.outcomes.now ++ parts (species_text c.args.names.now c.args.outcomes.now) 0) (sym (append-nil (total_text c.args.outcomes.now))) (wrote_by c.in_ok-write_total.ensures)

pub returns-in_err-write_species : goal.returns-in_err-write_species
returns-in_err-write_species g c =
    let names = c.args.names.now in
    let os = c.args.outcomes.now in
    let part = species_text names os in
    let species = c.loop-species.species in
    let within = parts-within part species (length names) (omega (arith, c.loop-species-test.true)) in
    puts_as (totals_text names os)
    (ap (λ t. t ++ within.0) (append_assoc (total_text os) (parts part species) (part species))
    ∙ append_assoc (total_text os) (parts part species ++ part species) within.0
    ∙ ap (λ t. total_text os ++ t) (sym within.1))
    (fails_behind _ within.0 c.from_residual-in_err-write_species.result c.from_residual-in_err-write_species.ensures.1 c.loop-species.invariant c.in_err-write_species.ensures)

pub loop-species-preserved : goal.loop-species-preserved
loop-species-preserved g c =
    let os = c.args.outcomes.now in
    let part = species_text c.args.names.now os in
    let species = c.loop-species.species in
    wrote_as (total_text os ++ parts part (species + 1))
    (append_assoc (total_text os) (parts part species) (part species) ∙ ap (λ t. total_text os ++ t) (sym (parts-more part species)))
    (wrote_more {x = total_text os ++ parts part species} {y = part species} c.loop-species.invariant (wrote_by c.in_ok-write_species.ensures))

pub returns : goal.returns
returns g c =
    let os = c.args.outcomes.now in
    let part = species_text c.args.names.now os in
    let all : c.loop-species.species ≡ length c.args.names.now = omega (arith, c.loop-species-test.false) in
    puts_as (totals_text c.args.names.now os) (ap (λ n. total_text os ++ parts part n) all) (puts_done c.loop-species.invariant)
