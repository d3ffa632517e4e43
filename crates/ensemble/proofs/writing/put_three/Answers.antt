use Rattle.std.proofs.Common.{◌++◌, decimal, sym, append_assoc}
use Rattle.surf_outside.proofs.LawLemmas.{wrote_by, wrote_more, fails_within, fails_behind, puts_after, puts_as}
use Rattle.ensemble.specs.Wording.{three}
use Rattle.ensemble.proofs.writing.put_three.Goals as goal

pub returns-in_err-put_number : goal.returns-in_err-put_number
returns-in_err-put_number g c =
    let a = c.args.first in
    let b = c.args.second in
    let d = c.args.third in
    let first = a.0.now ++ decimal a.1 in
    let second = b.0.now ++ decimal b.1 in
    let third = d.0.now ++ decimal d.1 in
    puts_as (three a.0.now a.1 b.0.now b.1 d.0.now d.1) (sym (append_assoc first second third))
    (fails_within _ (second ++ third) c.from_residual.result c.from_residual.ensures.1 c.in_err-put_number.ensures)

pub returns-in_err-put_number-2 : goal.returns-in_err-put_number-2
returns-in_err-put_number-2 g c =
    let third = c.args.third.0.now ++ decimal c.args.third.1 in
    fails_behind _ third c.from_residual-in_err-put_number-2.result c.from_residual-in_err-put_number-2.ensures.1 (wrote_by c.in_ok-put_number.ensures) c.in_err-put_number-2.ensures

pub returns : goal.returns
returns g c = puts_after c.put_number-3.result (wrote_more (wrote_by c.in_ok-put_number.ensures) (wrote_by c.in_ok-put_number-2.ensures)) c.put_number-3.ensures
