use Rattle.std.proofs.Common.{◌≡◌, ◌+◌, length, sym, ap, arith}
use Rattle.surf_outside.specs.Parts.{parts}
use Rattle.surf_outside.proofs.LawLemmas.{parts-more, parts-within, wrote_by, wrote_nothing, wrote_as, wrote_more, fails_behind, puts_as, puts_done}
use Rattle.ensemble.specs.Texts.{count_text}
use Rattle.ensemble.proofs.writing.write_counts.Goals as goal

pub loop-species-init : goal.loop-species-init
loop-species-init g c = wrote_nothing _ _

pub returns-in_err-write_count : goal.returns-in_err-write_count
returns-in_err-write_count g c =
    let names = c.args.names.now in
    let part = count_text names c.args.outcome.now in
    let species = c.loop-species.species in
    let within = parts-within part species (length names) (omega (arith, c.loop-species-test.true)) in
    puts_as (parts part (length names)) (sym within.1)
    (fails_behind _ within.0 c.from_residual.result c.from_residual.ensures.1 c.loop-species.invariant c.in_err-write_count.ensures)

pub loop-species-preserved : goal.loop-species-preserved
loop-species-preserved g c =
    let part = count_text c.args.names.now c.args.outcome.now in
    let species = c.loop-species.species in
    wrote_as (parts part (species + 1)) (sym (parts-more part species)) (wrote_more {x = parts part species} {y = part species} c.loop-species.invariant (wrote_by c.in_ok-write_count.ensures))

pub returns : goal.returns
returns g c =
    let part = count_text c.args.names.now c.args.outcome.now in
    let all : c.loop-species.species ≡ length c.args.names.now = omega (arith, c.loop-species-test.false) in
    puts_as (parts part (length c.args.names.now)) (ap (parts part) all) (puts_done c.loop-species.invariant)
