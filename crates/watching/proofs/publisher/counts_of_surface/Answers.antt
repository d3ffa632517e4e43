use Rattle.std.proofs.Common.{◌≡◌, ◌+◌, ◌++◌, ◌∷◌, [], sym, ◌∙◌, arith}
use Rattle.std.proofs.lemmas.List.FromFn.{map-range_with_len_more}
use Rattle.trace_text.specs.Lines.{count_of}
use Rattle.watching.proofs.publisher.counts_of_surface.Goals as goal

pub loop-species-preserved : goal.loop-species-preserved
loop-species-preserved c =
    let at : 0 + c.loop-species.species ≡ c.loop-species.species = omega arith in
    c.in_ok-push.ensures.items
    ∙ ((λ i. c.loop-species.invariant i ++ c.count_at.ensures i ∷ [])
    ∙ sym (map-range_with_len_more (count_of c.args.surface.now.sites) 0 c.loop-species.species c.loop-species.species at))
