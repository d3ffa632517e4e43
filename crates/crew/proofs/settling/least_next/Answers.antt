use Rattle.std.proofs.Common.{◌≡◌, ◌∙◌, sym, subst, arith}
use Rattle.warp_core.specs.Settling.{IsLeastNext}
use Rattle.warp_core.proofs.LawLemmas.{least_first, least_better, least_other}
use Rattle.crew.proofs.settling.least_next.Goals as goal
use Rattle.crew.proofs.settling.least_next.Goals.{then-is_before, else-is_before}

pub loop-i-init : goal.loop-i-init
loop-i-init g c = least_first (g.M.Machine.world c.args.m.now) (g.M.Machine.core c.args.m.now) c.next_key-least.result c.next_key-least.ensures

pub loop-i-preserved : goal.loop-i-preserved
loop-i-preserved g c =
    elim c.if-is_before.branch [
      | then-is_before b ↦ rw b.least-is (least_better (g.M.Machine.world c.args.m.now) (g.M.Machine.core c.args.m.now) c.loop-i.i c.loop-i.least c.next_key-here.result c.loop-i.invariant c.next_key-here.ensures (sym c.is_before.ensures ∙ b.if-is_before.true))
      | else-is_before b ↦ rw b.least-is (least_other (g.M.Machine.world c.args.m.now) (g.M.Machine.core c.args.m.now) c.loop-i.i c.loop-i.least c.next_key-here.result c.loop-i.invariant c.next_key-here.ensures (sym c.is_before.ensures ∙ b.if-is_before.false))
    ]

pub returns : goal.returns
returns g c =
    let all : c.loop-i.i ≡ c.args.n = omega (arith, c.loop-i-test.false, c.loop-i.auto.i-end, c.requires.inside.1) in
    subst (λ n. IsLeastNext (g.M.Machine.world c.args.m.now) (g.M.Machine.core c.args.m.now) n c.loop-i.least) all c.loop-i.invariant
