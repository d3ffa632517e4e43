use Rattle.std.proofs.Common.{◌∷◌, [], ◌++◌, codes, sym, ◌∙◌, append_assoc}
use Rattle.surf_outside.proofs.LawLemmas.{wrote_by, wrote_more, fails_within, fails_behind, puts_after, puts_as}
use Rattle.ensemble.specs.Texts.{species_text}
use Rattle.ensemble.specs.Wording.{three}
use Rattle.ensemble.proofs.Wordings.{spread-is}
use Rattle.ensemble.proofs.writing.write_species.Goals as goal

pub returns-in_err-put : goal.returns-in_err-put
returns-in_err-put g c =
    let names = c.args.names.now in
    let os = c.args.outcomes.now in
    let k = c.args.species.0 in
    let spread = c.spread_of-spread.result in
    let s = c.spread_of-spread.ensures in
    let name = c.name_bytes.result.now in
    let tail = three (codes " least ") spread.least (codes " greatest ") spread.greatest (codes " sum ") spread.sum in
    puts_as (species_text names os k) (sym (append_assoc name tail (10 ∷ [])) ∙ spread-is names os k spread.least spread.greatest spread.sum name c.name_bytes.ensures s.least s.greatest s.sum)
    (fails_within _ (tail ++ 10 ∷ []) c.from_residual.result c.from_residual.ensures.1 c.in_err-put.ensures)

pub returns-in_err-put_three : goal.returns-in_err-put_three
returns-in_err-put_three g c =
    let names = c.args.names.now in
    let os = c.args.outcomes.now in
    let k = c.args.species.0 in
    let spread = c.spread_of-spread.result in
    let s = c.spread_of-spread.ensures in
    let name = c.name_bytes.result.now in
    let tail = three (codes " least ") spread.least (codes " greatest ") spread.greatest (codes " sum ") spread.sum in
    puts_as (species_text names os k) (spread-is names os k spread.least spread.greatest spread.sum name c.name_bytes.ensures s.least s.greatest s.sum)
    (fails_behind _ (10 ∷ []) c.from_residual-in_err-put_three.result c.from_residual-in_err-put_three.ensures.1 (wrote_by c.in_ok-put.ensures) c.in_err-put_three.ensures)

pub returns : goal.returns
returns g c =
    let names = c.args.names.now in
    let os = c.args.outcomes.now in
    let k = c.args.species.0 in
    let spread = c.spread_of-spread.result in
    let s = c.spread_of-spread.ensures in
    let name = c.name_bytes.result.now in
    let tail = three (codes " least ") spread.least (codes " greatest ") spread.greatest (codes " sum ") spread.sum in
    puts_as (species_text names os k) (spread-is names os k spread.least spread.greatest spread.sum name c.name_bytes.ensures s.least s.greatest s.sum)
    (puts_after c.put-2.result (wrote_more (wrote_by c.in_ok-put.ensures) (wrote_by c.in_ok-put_three.ensures)) c.put-2.ensures)
