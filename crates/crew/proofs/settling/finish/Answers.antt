use Rattle.std.proofs.Common.{◌≡◌, ◌<◌, ◌∙◌, refl, sym, ap, subst, arith}
use Rattle.surf_kinds.specs.Keys.{◌is_upto◌}
use Rattle.warp_core.specs.World.{end_key}
use Rattle.warp_core.specs.Cores.{Core, IsConsistent}
use Rattle.warp_core.specs.Settling.{StepsOne, IsUnderWay}
use Rattle.warp_core.specs.SettlingLoops.{IsFinishing}
use Rattle.surf_kinds.proofs.Order.{upto_both}
use Rattle.warp_core.proofs.LawLemmas.{finishing_skips, finishing_steps}
use Rattle.crew.proofs.settling.finish.Goals as goal
use Rattle.crew.proofs.settling.finish.Goals.{then-is_before+in_ok-step_one, else-is_before}

pub step_one-requires-clause-good : goal.step_one-requires-clause-good
step_one-requires-clause-good g c = subst (λ w. IsConsistent w (g.M.Machine.core c.loop-i.m)) (sym c.loop-i.invariant.0) (c.loop-i.invariant.1 (g.M.Machine.core c.args.m.now) refl).consistent

pub loop-i-preserved : goal.loop-i-preserved
loop-i-preserved g c =
    let w = g.M.Machine.world c.args.m.now in
    let mid = g.M.Machine.core c.loop-i.m in
    let same = c.loop-i.invariant.0 in
    let inside : c.loop-i.i < w.regions = omega (arith, c.requires.inside, c.loop-i-test.true) in
    elim c.if-is_before.branch [
      | then-is_before+in_ok-step_one b ↦ rw b.m-is (
        b.in_ok-step_one.ensures.world ∙ same,
        λ old h. finishing_steps w c.requires.world old mid (g.M.Machine.core b.step_one.new.self) c.loop-i.i (c.loop-i.invariant.1 old h) inside
            (subst (λ v. StepsOne v mid c.loop-i.i (g.M.Machine.core b.step_one.new.self)) same b.in_ok-step_one.ensures.one),
        b.in_ok-step_one.ensures.rest ∙ c.loop-i.invariant.2,
      )
      | else-is_before b ↦ rw b.m-is (
        same,
        λ old h.
            let s = c.loop-i.invariant.1 old h in
            let late : end_key w is_upto (mid.part c.loop-i.i).clock = subst (λ x. end_key w is_upto x) c.clock.ensures (subst (λ x. x is_upto c.clock.result) (c.end.ensures ∙ ap end_key same) (sym c.is_before.ensures ∙ b.if-is_before.false)) in
            finishing_skips w old mid c.loop-i.i s (upto_both (mid.part c.loop-i.i).clock (end_key w) (s.consistent.sound c.loop-i.i inside).high late),
        c.loop-i.invariant.2,
      )
    ]

pub returns-clause-finished : goal.returns-clause-finished
returns-clause-finished g c old h =
    let all : c.loop-i.i ≡ c.args.n = omega (arith, c.loop-i-test.false, c.loop-i.auto.i-end) in
    subst (λ n. IsFinishing (g.M.Machine.world c.args.m.now) old (g.M.Machine.core c.loop-i.m) n) all (c.loop-i.invariant.1 old h)

pub returns-in_err-step_one-clause-under_way : goal.returns-in_err-step_one-clause-under_way
returns-in_err-step_one-clause-under_way g c =
    let s = c.loop-i.invariant.1 (g.M.Machine.core c.args.m.now) refl in
    subst (λ (x : Core). IsUnderWay (g.M.Machine.world c.args.m.now) (g.M.Machine.core c.args.m.now) x) (sym c.in_err-step_one.ensures.err)
    (record { consistent = s.consistent; horizon = s.horizon })

pub returns-clause-under_way : goal.returns-clause-under_way
returns-clause-under_way g c =
    let s = c.loop-i.invariant.1 (g.M.Machine.core c.args.m.now) refl in record { consistent = s.consistent; horizon = s.horizon }
