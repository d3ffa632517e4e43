use Rattle.std.proofs.Common.{◌≡◌, ◌+◌, ◌<◌, suc, length, subst, arith}
use Rattle.crew.specs.Calls.{ChangesTwo, LooksAt, AreLookedAt}
use Rattle.crew.proofs.Working.{may_look, look_next, look_seen, each_refl, each_then}
use Rattle.crew.proofs.turns.look_before.Goals as goal

pub loop-j-init : goal.loop-j-init
loop-j-init c = (c.requires.until_here, each_refl c.args.regions.now)

pub look_in-requires-clause-may : goal.look_in-requires-clause-may
look_in-requires-clause-may c = may_look c.loop-j.regions c.args.i c.loop-j.j c.loop-j.invariant.0 (omega (arith, c.loop-j-test.true)) (omega (arith, c.requires.inside, c.loop-j.invariant.1.len))

pub loop-j-preserved : goal.loop-j-preserved
loop-j-preserved c =
    let changed : ChangesTwo LooksAt c.loop-j.regions c.loop-j.j c.args.i c.look_in.new.regions = record { len = c.look_in.auto.regions; others = c.look_in.ensures.others; they = c.look_in.ensures.they } in
    let before : c.loop-j.j < c.args.i = omega (arith, c.loop-j-test.true) in
    let inside : c.args.i < length c.loop-j.regions = omega (arith, c.requires.inside, c.loop-j.invariant.1.len) in
    let next : suc c.loop-j.j ≡ c.loop-j.j + 1 = omega (arith) in (
      subst (λ m. AreLookedAt c.args.i m c.look_in.new.regions) next (look_next c.loop-j.regions c.args.i c.loop-j.j c.loop-j.invariant.0 before inside c.look_in.new.regions changed),
      each_then c.args.regions.now c.loop-j.regions c.look_in.new.regions c.loop-j.invariant.1 (look_seen c.loop-j.regions c.args.i c.loop-j.j c.loop-j.invariant.0 before inside c.look_in.new.regions changed),
    )

pub returns-clause-looked : goal.returns-clause-looked
returns-clause-looked c =
    let all : c.loop-j.j ≡ c.args.i = omega (arith, c.loop-j-test.false, c.loop-j.auto.j-end) in
    subst (λ m. AreLookedAt c.args.i m c.loop-j.regions) all c.loop-j.invariant.0
