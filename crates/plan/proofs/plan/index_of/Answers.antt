use Rattle.std.proofs.Common.{◌≡◌, ◌+◌, ◌*◌, ◌++◌, suc, Some, sym, ap, ◌∙◌, arith, refl}
use Rattle.std.specs.Prelude.{slice_get}
use Rattle.std.proofs.lemmas.Option.{slice_get_read}
use Rattle.plan.specs.Channels.{channel_at, channels_upto}
use Rattle.plan.proofs.plan.index_of.Goals as goal

pub loop-i-preserved : goal.loop-i-preserved
loop-i-preserved c = (
  c.in_ok-add_rule.ensures.rows,
  λ r.
      let i = c.loop-i.i in
      let rules = c.args.rules.now in
      let here : slice_get rules i ≡ Some c.index-rules-i.result = slice_get_read rules _ i c.index-rules-i.result refl c.loop-i-test.true c.index-rules-i.is in
      let one : suc i ≡ i + 1 = omega arith in
      let next : channels_upto rules r (suc i) ≡ channels_upto rules r (i + 1) = ap (channels_upto rules r) one in
      c.in_ok-add_rule.ensures.added r
      ∙ (ap (λ xs. (xs ++ channel_at r (2 * i) 0 (Some c.index-rules-i.result)) ++ channel_at r (2 * i + 1) 1 (Some c.index-rules-i.result)) (c.loop-i.invariant.1 r)
      ∙ (ap (λ o. (channels_upto rules r i ++ channel_at r (2 * i) 0 o) ++ channel_at r (2 * i + 1) 1 o) (sym here)
      ∙ next)),
)
