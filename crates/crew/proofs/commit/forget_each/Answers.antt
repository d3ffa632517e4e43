use Rattle.std.proofs.Common.{sym, subst, arith}
use Rattle.crew.specs.Calls.{MayForget, Forgets}
use Rattle.crew.proofs.Lists.{past_more, rest_stays}
use Rattle.crew.proofs.commit.forget_each.Goals as goal

pub forget-requires : goal.forget-requires
forget-requires c =
    subst (MayForget c.args.key) (sym (c.loop-i.invariant.rest c.loop-i.i c.index-regions-i.result (omega (arith)))) (c.requires c.loop-i.i c.index-regions-i.result (omega (arith, c.loop-i-test.true, c.loop-i.auto.regions)))

pub loop-i-preserved : goal.loop-i-preserved
loop-i-preserved c = record {
  past = past_more (Forgets c.args.key) c.args.regions.now c.loop-i.regions c.loop-i.i c.index-regions-i.result c.forget.new.region (omega (arith, c.loop-i-test.true, c.loop-i.auto.regions)) c.loop-i.auto.regions c.forget.ensures c.loop-i.invariant.past c.loop-i.invariant.rest;
  rest = rest_stays c.args.regions.now c.loop-i.regions c.loop-i.i c.forget.new.region c.loop-i.invariant.rest;
}
