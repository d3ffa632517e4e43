use Rattle.std.proofs.Common.{ap, sym, ◌∙◌}
use Rattle.manifest_write.specs.Canon.{without_zeros}
use Rattle.manifest_write.proofs.Spellings.Zeros.{zero-goes, other-stays}
use Rattle.manifest_write.proofs.pieces.without_zeros.Goals as goal

pub loop-last-preserved : goal.loop-last-preserved
loop-last-preserved c =
    let e = c.in-Some.ensures.cases in
    sym (zero-goes c.in-Some.others.now c.in-Some.last.now c.if-last-eq48.true) ∙ ap without_zeros (sym e.0) ∙ c.loop-last.invariant

pub returns-else-last-eq48 : goal.returns-else-last-eq48
returns-else-last-eq48 c =
    let e = c.in-Some.ensures.cases in
    e.0 ∙ sym (other-stays c.in-Some.others.now c.in-Some.last.now c.if-last-eq48.false) ∙ ap without_zeros (sym e.0) ∙ c.loop-last.invariant
