use Rattle.std.proofs.Common.{◌∷◌, ◌++◌, [], arith, sym, ap, ◌∙◌}
use Rattle.std.proofs.lemmas.List.FromFn.{map-range_with_len_more}
use Rattle.workload.specs.Generated.{species_at}
use Rattle.workload.proofs.making.cells_on.Goals as goal

pub loop-site-preserved : goal.loop-site-preserved
loop-site-preserved c =
    c.in_ok-push.ensures.items
    ∙ ap (λ s. c.loop-site.cells.items ++ s ∷ []) c.species_in.ensures
    ∙ ap (λ cells. cells ++ species_at c.args.number c.args.side c.loop-site.site ∷ []) c.loop-site.invariant
    ∙ sym (map-range_with_len_more (species_at c.args.number c.args.side) 0 c.loop-site.site c.loop-site.site (omega arith))
