use Rattle.std.proofs.Common.{◌≡◌, ◌+◌, suc, length, subst, arith}
use Rattle.crew.specs.Calls.{AreLookedAt}
use Rattle.crew.proofs.Working.{row_next, each_refl, each_then}
use Rattle.crew.proofs.turns.look_at_each.Goals as goal

pub loop-i-init : goal.loop-i-init
loop-i-init c = (c.requires, each_refl c.args.regions.now)

pub loop-i-preserved : goal.loop-i-preserved
loop-i-preserved c =
    let next : suc c.loop-i.i ≡ c.loop-i.i + 1 = omega (arith) in (
      subst (λ m. AreLookedAt m 0 c.look_before.new.regions) next (row_next c.look_before.new.regions c.loop-i.i c.look_before.ensures.looked),
      each_then c.args.regions.now c.loop-i.regions c.look_before.new.regions c.loop-i.invariant.1 c.look_before.ensures.each,
    )

pub returns-clause-looked : goal.returns-clause-looked
returns-clause-looked c =
    let all : c.loop-i.i ≡ length c.args.regions.now = omega (arith, c.loop-i-test.false, c.loop-i.auto.i-end) in
    subst (λ m. AreLookedAt m 0 c.loop-i.regions) all c.loop-i.invariant.0
