use Rattle.std.proofs.Common.{ap, sym, ◌∙◌, arith}
use Rattle.std.specs.Prelude.{◌++◌, ◌∷◌, []}
use Rattle.std.proofs.lemmas.List.FromFn.{map-range_with_len_more}
use Rattle.trace_text.specs.Lines.{count_of, counts_of}
use Rattle.ensemble.proofs.one_seed.counts_of.Goals as goal

pub loop-species-preserved : goal.loop-species-preserved
loop-species-preserved c =
    let sites = c.args.surface.now.sites in
    let k = c.loop-species.species in
    c.in_ok-push.ensures.ok
    ∙ (ap (λ xs. xs ++ c.from.result ∷ []) c.loop-species.invariant
    ∙ (ap (λ n. counts_of sites k ++ n ∷ []) (c.from.ensures ∙ c.count-count.ensures) ∙ sym (map-range_with_len_more (count_of sites) 0 k k (omega arith))))
