use Rattle.std.proofs.Common.{◌<◌, ◌∙◌, sym, subst, arith}
use Rattle.surf_kinds.specs.Keys.{◌is_below◌, ◌is_upto◌}
use Rattle.warp_core.specs.Settling.{StepsOne}
use Rattle.warp_core.proofs.LawLemmas.{passing_skips, passing_steps}
use Rattle.crew.proofs.settling.pass.Goals as goal
use Rattle.crew.proofs.settling.pass.Goals.{then-not-is_before+in_ok-step_one, else-not-is_before}

pub loop-i-preserved : goal.loop-i-preserved
loop-i-preserved g c =
    let w = g.M.Machine.world c.args.m.now in
    let start = g.M.Machine.core c.args.m.now in
    let mid = g.M.Machine.core c.loop-i.m in
    let same = c.loop-i.invariant.0 in
    elim c.if-not-is_before.branch [
      | then-not-is_before+in_ok-step_one b ↦ rw b.m-is
          (let inside : c.loop-i.i < w.regions = omega (arith, c.requires.inside, c.loop-i-test.true) in
          let behind : (mid.part c.loop-i.i).clock is_upto c.args.key = subst (λ x. x is_upto c.args.key) c.clock.ensures (sym c.is_before.ensures ∙ b.if-not-is_before.true) in (
            b.in_ok-step_one.ensures.world ∙ same,
            passing_steps w c.requires.world start mid (g.M.Machine.core b.step_one.new.self) c.args.key c.loop-i.i c.loop-i.invariant.1 inside c.requires.early behind
                (subst (λ v. StepsOne v mid c.loop-i.i (g.M.Machine.core b.step_one.new.self)) same b.in_ok-step_one.ensures.one),
            b.in_ok-step_one.ensures.rest ∙ c.loop-i.invariant.2,
          ))
      | else-not-is_before b ↦ rw b.m-is
          (same, passing_skips w start mid c.args.key c.loop-i.i c.loop-i.invariant.1 (subst (λ x. c.args.key is_below x) c.clock.ensures (sym c.is_before.ensures ∙ b.if-not-is_before.false)), c.loop-i.invariant.2)
    ]
