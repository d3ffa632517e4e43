use Rattle.std.proofs.Common.{◌≡◌, ◌+◌, ◌<◌, ◌≤◌, length, map, take, get_or, ap, sym, ◌∙◌, arith}
use Rattle.std.specs.Prelude.{fold, min, max}
use Rattle.ensemble.specs.Texts.{count_in}
use Rattle.ensemble.proofs.Spreading.{fold_more}
use Rattle.ensemble.proofs.spread.spread_from.Goals as goal

pub loop-outcome-init : goal.loop-outcome-init
loop-outcome-init c =
    let s = c.of-spread.ensures in
    record {
      least = ap (λ x. x.least) s;
      greatest = ap (λ x. x.greatest) s;
      sum = ap (λ x. x.sum) s;
      small = omega (arith, ap (λ x. x.sum) s, c.requires.first);
    }

pub add-requires : goal.add-requires
add-requires c =
    let k = c.args.species.0 in
    let os = c.args.others.now in
    let i = c.loop-outcome.outcome-index in
    let o = c.outcome-item.result in
    let inside : i < length os = c.loop-outcome-test.true in
    let at : c.count_in.result ≡ count_in k (get_or os i o) = c.count_in.ensures ∙ ap (count_in k) c.outcome-item.is in
    let small : count_in k (get_or os i o) ≤ 1048576 = c.requires.small i o inside in
    omega (arith, at, small, inside, c.requires.few, c.loop-outcome.invariant.small)

pub loop-outcome-preserved : goal.loop-outcome-preserved
loop-outcome-preserved c =
    let k = c.args.species.0 in
    let os = c.args.others.now in
    let first = c.args.first in
    let i = c.loop-outcome.outcome-index in
    let o = c.outcome-item.result in
    let inside : i < length os = c.loop-outcome-test.true in
    let at : c.count_in.result ≡ count_in k (get_or os i o) = c.count_in.ensures ∙ ap (count_in k) c.outcome-item.is in
    let small : count_in k (get_or os i o) ≤ 1048576 = c.requires.small i o inside in
    let s = c.add.ensures in
    let before = c.loop-outcome.invariant in
    record {
      least = ap (λ x. x.least) s ∙ (ap (λ n. min n c.count_in.result) before.least ∙ (ap (λ n. min (fold min first (map (count_in k) (take i os))) n) at ∙ sym (fold_more (count_in k) min first os i o inside)));
      greatest = ap (λ x. x.greatest) s ∙ (ap (λ n. max n c.count_in.result) before.greatest ∙ (ap (λ n. max (fold max first (map (count_in k) (take i os))) n) at ∙ sym (fold_more (count_in k) max first os i o inside)));
      sum = ap (λ x. x.sum) s ∙ (ap (λ n. n + c.count_in.result) before.sum ∙ (ap (λ n. fold (λ a b. a + b) first (map (count_in k) (take i os)) + n) at ∙ sym (fold_more (count_in k) (λ a b. a + b) first os i o inside)));
      small = omega (arith, ap (λ x. x.sum) s, at, small, before.small);
    }
