use Rattle.std.proofs.Common.{◌∙◌, inl, inr, sym, subst, arith}
use Rattle.std.proofs.lemmas.Bool.Decides.{eqb_tells}
use Rattle.surf_kinds.specs.Keys.{◌is_below◌}
use Rattle.crew.proofs.settling.some_behind.Goals as goal

pub loop-i-init : goal.loop-i-init
loop-i-init g c k h = absurd (omega (arith, h))

pub loop-i-preserved : goal.loop-i-preserved
loop-i-preserved g c k h =
    elim (eqb_tells k c.loop-i.i) [
      | inl q ↦ subst (λ n. c.args.key is_below ((g.M.Machine.core c.args.m.now).part n).clock) (sym q.1) (subst (λ x. c.args.key is_below x) c.clock.ensures (sym c.is_before.ensures ∙ c.if-not-is_before.false))
      | inr q ↦ c.loop-i.invariant k (omega (arith, h, q.1))
    ]

pub returns-clause-none : goal.returns-clause-none
returns-clause-none g c _ k h = c.loop-i.invariant k (omega (arith, h, c.loop-i-test.false))
