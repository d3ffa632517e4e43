use Rattle.std.proofs.Common.{◌++◌, length, codes, sym, ap, ◌∙◌, append_assoc}
use Rattle.surf_outside.specs.Parts.{parts}
use Rattle.surf_outside.proofs.LawLemmas.{wrote_by, wrote_more, fails_within, fails_behind, puts_after, puts_as}
use Rattle.ensemble.specs.Texts.{count_text, end_text, outcome_text}
use Rattle.ensemble.specs.Wording.{three}
use Rattle.ensemble.proofs.Wordings.{outcome-is}
use Rattle.ensemble.proofs.writing.write_outcome.Goals as goal

pub returns-in_err-put_three : goal.returns-in_err-put_three
returns-in_err-put_three g c =
    let names = c.args.names.now in
    let o = c.args.outcome.now in
    let head = three (codes "seed ") o.seed (codes " events ") o.events (codes " last ") o.last in
    let counts = parts (count_text names o) (length names) in
    puts_as (outcome_text names o) (sym (append_assoc head counts (end_text o.ended)) ∙ outcome-is names o)
    (fails_within _ (counts ++ end_text o.ended) c.from_residual.result c.from_residual.ensures.1 c.in_err-put_three.ensures)

pub returns-in_err-write_counts : goal.returns-in_err-write_counts
returns-in_err-write_counts g c =
    let names = c.args.names.now in
    let o = c.args.outcome.now in
    puts_as (outcome_text names o) (outcome-is names o)
    (fails_behind _ (end_text o.ended) c.from_residual-in_err-write_counts.result c.from_residual-in_err-write_counts.ensures.1 (wrote_by c.in_ok-put_three.ensures) c.in_err-write_counts.ensures)

pub returns : goal.returns
returns g c =
    let names = c.args.names.now in
    let o = c.args.outcome.now in
    let head = three (codes "seed ") o.seed (codes " events ") o.events (codes " last ") o.last in
    let counts = parts (count_text names o) (length names) in
    puts_as (outcome_text names o) (ap (λ t. (head ++ counts) ++ t) c.line_end.ensures ∙ outcome-is names o)
    (puts_after c.put.result (wrote_more (wrote_by c.in_ok-put_three.ensures) (wrote_by c.in_ok-write_counts.ensures)) c.put.ensures)
