use Rattle.std.proofs.Common.{◌≡◌, ◌+◌, ◌++◌, ◌∷◌, [], map, ap, sym, ◌∙◌, arith}
use Rattle.std.specs.List.{range_with_len}
use Rattle.std.proofs.lemmas.List.FromFn.{map-range_with_len_more}
use Rattle.circuit_text.specs.declared.kinds.Net.TheVariants as net
use Rattle.bench_read.proofs.Building.{range-more}
use Rattle.bench_read.proofs.chain.Circuitry.of_inputs.Goals as goal

pub loop-number-preserved : goal.loop-number-preserved
loop-number-preserved c =
    let n = c.loop-number.number in
    record {
      nets = c.in_ok-push.ensures.items ∙ ap (λ t. t ++ net.Input n ∷ []) c.loop-number.invariant.nets ∙ sym (map-range_with_len_more net.Input 0 n n (omega arith));
      at = c.in_ok-push-2.ensures.items ∙ ap (λ t. t ++ n ∷ []) c.loop-number.invariant.at ∙ sym (range-more n);
    }
