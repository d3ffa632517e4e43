use Rattle.std.proofs.Common.{◌++◌, ◌∙◌, ap, codes, decimal, ne_eqb}
use Rattle.surf_kinds.specs.Rates.{Fraction}
use Rattle.manifest_write.specs.Canon.{rate_text}
use Rattle.surf_outside.proofs.LawLemmas.{puts_as}
use Rattle.manifest_write.proofs.Spellings.Forms.{quotient-rate}
use Rattle.manifest_write.proofs.pieces.put_rate.Goals as goal

pub returns : goal.returns
returns g c =
    let r = c.rate.inside in
    puts_as (codes "(" ++ rate_text c.args.rate ++ codes ") ")
    (quotient-rate r.p r.q c.bytes-2.result.now c.bytes-3.result.now
    (c.bytes-2.ensures ∙ c.of-p.ensures ∙ ap decimal c.from.ensures)
    (c.bytes-3.ensures ∙ c.of-q.ensures ∙ ap decimal c.from-2.ensures)
    (ne_eqb r.q 1 c.if-rate-eq1.false)
    ∙ ap (λ (f : Fraction). codes "(" ++ rate_text f ++ codes ") ") c.rate.view_is)
    c.put_pieces-2.ensures
