use Rattle.std.proofs.Common.{◌≡◌, ◌<◌, ◌∙◌, refl, sym, ap, subst, arith}
use Rattle.surf_kinds.specs.Keys.{◌is_below◌, ◌is_upto◌}
use Rattle.warp_core.specs.World.{World, IsWorld, end_key}
use Rattle.warp_core.specs.Cores.{IsConsistent}
use Rattle.warp_core.specs.Settling.{lag, AreEmpty, IsLeastNext, TakesTo}
use Rattle.warp_core.specs.SettlingLoops.{IsPassing, IsFinishing}
use Rattle.warp_core.proofs.LawLemmas.{takes_consistent, takes_horizon}
use Rattle.warp_core.proofs.LawLemmas.{settles_first, passing_first, settles_next, settles_falls, settles_done, finishing_first, finishing_done}
use Rattle.crew.proofs.settling.settle.Goals as goal

pub least_next-key-requires-clause-inside : goal.least_next-key-requires-clause-inside
least_next-key-requires-clause-inside g c =
    let laws : IsWorld (g.M.Machine.world c.deliver_all.new.m) = subst IsWorld (sym c.in_ok-deliver_all.ensures.world) c.requires.world in
    (c.regions-n.ensures, omega (arith, laws.owned 0, c.regions-n.ensures))

pub least_next-key-requires-clause-good : goal.least_next-key-requires-clause-good
least_next-key-requires-clause-good g c =
    subst (λ w. IsConsistent w (g.M.Machine.core c.deliver_all.new.m)) (sym c.in_ok-deliver_all.ensures.world)
    (takes_consistent (g.M.Machine.world c.args.m.now) (g.M.Machine.core c.args.m.now) (g.M.Machine.core c.deliver_all.new.m) c.in_ok-deliver_all.ensures.takes c.requires.good)

pub finish-requires-clause-first : goal.finish-requires-clause-first
finish-requires-clause-first g c old h =
    let w = g.M.Machine.world c.deliver_all.new.m in
    let core = g.M.Machine.core c.deliver_all.new.m in
    let good : IsConsistent w core =
    subst (λ v. IsConsistent v core) (sym c.in_ok-deliver_all.ensures.world)
    (takes_consistent (g.M.Machine.world c.args.m.now) (g.M.Machine.core c.args.m.now) core c.in_ok-deliver_all.ensures.takes c.requires.good) in
    finishing_first w old core c.least_next-key.result good h c.in_ok-deliver_all.ensures.empty (subst (λ n. IsLeastNext w core n c.least_next-key.result) c.regions-n.ensures c.least_next-key.ensures)
    (subst (λ x. x is_upto c.least_next-key.result) c.end.ensures (sym c.is_before.ensures ∙ c.if-not-is_before.true))

pub returns-then-not-is_before-clause-settled : goal.returns-then-not-is_before-clause-settled
returns-then-not-is_before-clause-settled g c =
    let w = g.M.Machine.world c.args.m.now in
    let old = g.M.Machine.core c.args.m.now in
    let core = g.M.Machine.core c.deliver_all.new.m in
    let same : core.horizon ≡ old.horizon = takes_horizon w old core old.horizon c.in_ok-deliver_all.ensures.takes refl in
    let f : IsFinishing (g.M.Machine.world c.deliver_all.new.m) old (g.M.Machine.core c.finish.new.m) c.regions-n.result = c.in_ok-finish.ensures.finished old same in
    finishing_done w old (g.M.Machine.core c.finish.new.m)
    (subst (λ v. IsFinishing v old (g.M.Machine.core c.finish.new.m) v.regions) c.in_ok-deliver_all.ensures.world
    (subst (λ n. IsFinishing (g.M.Machine.world c.deliver_all.new.m) old (g.M.Machine.core c.finish.new.m) n) c.regions-n.ensures f))

pub loop-key-init : goal.loop-key-init
loop-key-init g c =
    let w = g.M.Machine.world c.args.m.now in
    let old = g.M.Machine.core c.args.m.now in
    let core = g.M.Machine.core c.deliver_all.new.m in
    let same = c.in_ok-deliver_all.ensures.world in
    let good : IsConsistent w core = takes_consistent w old core c.in_ok-deliver_all.ensures.takes c.requires.good in
    let count : c.regions-n.result ≡ w.regions = c.regions-n.ensures ∙ ap (λ (v : World). v.regions) same in
    let least : IsLeastNext w core w.regions c.least_next-key.result =
    subst (λ n. IsLeastNext w core n c.least_next-key.result) count (subst (λ v. IsLeastNext v core c.regions-n.result c.least_next-key.result) same c.least_next-key.ensures) in (
      same,
      count,
      settles_first w c.requires.world old core c.least_next-key.result good (takes_horizon w old core old.horizon c.in_ok-deliver_all.ensures.takes refl)
          (subst (λ v. AreEmpty v core) same c.in_ok-deliver_all.ensures.empty) least
          (subst (λ x. c.least_next-key.result is_below x) (c.end.ensures ∙ ap end_key same) (sym c.is_before.ensures ∙ c.if-not-is_before.false)),
      c.in_ok-deliver_all.ensures.rest,
    )

pub pass-requires-clause-first : goal.pass-requires-clause-first
pass-requires-clause-first g c =
    subst (λ v. IsPassing v (g.M.Machine.core c.loop-key.m) (g.M.Machine.core c.loop-key.m) c.least_next-key.result 0) (sym c.loop-key.invariant.0)
    (passing_first (g.M.Machine.world c.args.m.now) (g.M.Machine.core c.args.m.now) (g.M.Machine.core c.loop-key.m) c.least_next-key.result c.loop-key.invariant.2)

pub loop-key-smaller : goal.loop-key-smaller
loop-key-smaller g c =
    let w = g.M.Machine.world c.loop-key.m in
    let start = g.M.Machine.core c.loop-key.m in
    let mid = g.M.Machine.core c.pass.new.m in
    let new = g.M.Machine.core c.deliver_all-in-loop-key.new.m in
    let m = c.least_next-key.result in
    let laws : IsWorld w = subst IsWorld (sym c.loop-key.invariant.0) c.requires.world in
    let count : c.regions-n.result ≡ w.regions = c.loop-key.invariant.1 ∙ ap (λ (v : World). v.regions) (sym c.loop-key.invariant.0) in
    let passed : IsPassing w start mid m w.regions = subst (λ n. IsPassing w start mid m n) count c.in_ok-pass.ensures.passed in
    let taken : TakesTo w mid new = subst (λ v. TakesTo v mid new) c.in_ok-pass.ensures.world c.in_ok-deliver_all-2.ensures.takes in
    let behind = c.some_behind.ensures.some c.loop-key-test.true in
    subst (λ v. lag v new m < lag w start m) (sym (c.in_ok-deliver_all-2.ensures.world ∙ c.in_ok-pass.ensures.world))
    (settles_falls w laws start mid new m behind.0 passed taken (omega (arith, behind.1, count)) behind.2)

pub loop-key-preserved : goal.loop-key-preserved
loop-key-preserved g c =
    let w = g.M.Machine.world c.args.m.now in
    let old = g.M.Machine.core c.args.m.now in
    let start = g.M.Machine.core c.loop-key.m in
    let mid = g.M.Machine.core c.pass.new.m in
    let new = g.M.Machine.core c.deliver_all-in-loop-key.new.m in
    let m = c.least_next-key.result in
    let same = c.loop-key.invariant.0 in
    let passed : IsPassing w start mid m w.regions =
    subst (λ n. IsPassing w start mid m n) c.loop-key.invariant.1 (subst (λ v. IsPassing v start mid m c.regions-n.result) same c.in_ok-pass.ensures.passed) in
    let taken : TakesTo w mid new = subst (λ v. TakesTo v mid new) (c.in_ok-pass.ensures.world ∙ same) c.in_ok-deliver_all-2.ensures.takes in
    let now = c.in_ok-deliver_all-2.ensures.world ∙ (c.in_ok-pass.ensures.world ∙ same) in
    (now, c.loop-key.invariant.1, settles_next w c.requires.world old start mid new m c.loop-key.invariant.2 passed taken (subst (λ v. AreEmpty v new) now c.in_ok-deliver_all-2.ensures.empty), c.in_ok-deliver_all-2.ensures.rest ∙ (c.in_ok-pass.ensures.rest ∙ c.loop-key.invariant.3))

pub returns-clause-settled : goal.returns-clause-settled
returns-clause-settled g c =
    settles_done (g.M.Machine.world c.args.m.now) (g.M.Machine.core c.args.m.now) (g.M.Machine.core c.loop-key.m) c.least_next-key.result c.loop-key.invariant.2
    (λ k h. c.some_behind.ensures.none c.loop-key-test.false k (omega (arith, h, c.loop-key.invariant.1)))

pub returns-in_err-deliver_all-clause-under_way : goal.returns-in_err-deliver_all-clause-under_way
returns-in_err-deliver_all-clause-under_way g c =
    let w = g.M.Machine.world c.args.m.now in
    let old = g.M.Machine.core c.args.m.now in
    record { consistent = takes_consistent w old (g.M.Machine.core c.deliver_all.new.m) c.deliver_all.ensures.takes c.requires.good; horizon = takes_horizon w old (g.M.Machine.core c.deliver_all.new.m) old.horizon c.deliver_all.ensures.takes refl }

pub returns-then-not-is_before-clause-under_way : goal.returns-then-not-is_before-clause-under_way
returns-then-not-is_before-clause-under_way g c =
    let w = g.M.Machine.world c.args.m.now in
    let old = g.M.Machine.core c.args.m.now in
    let core = g.M.Machine.core c.deliver_all.new.m in
    let same : core.horizon ≡ old.horizon = takes_horizon w old core old.horizon c.deliver_all.ensures.takes refl in
    let u = c.finish.ensures.under_way in
    record { consistent = subst (λ v. IsConsistent v (g.M.Machine.core c.finish.new.m)) c.deliver_all.ensures.world u.consistent; horizon = u.horizon ∙ same }

pub returns-in_err-finish-clause-under_way : goal.returns-in_err-finish-clause-under_way
returns-in_err-finish-clause-under_way g c =
    let w = g.M.Machine.world c.args.m.now in
    let old = g.M.Machine.core c.args.m.now in
    let core = g.M.Machine.core c.deliver_all.new.m in
    let same : core.horizon ≡ old.horizon = takes_horizon w old core old.horizon c.deliver_all.ensures.takes refl in
    let u = c.finish.ensures.under_way in
    record { consistent = subst (λ v. IsConsistent v (g.M.Machine.core c.finish.new.m)) c.deliver_all.ensures.world u.consistent; horizon = u.horizon ∙ same }

pub returns-in_err-deliver_all-2-clause-under_way : goal.returns-in_err-deliver_all-2-clause-under_way
returns-in_err-deliver_all-2-clause-under_way g c =
    let w = g.M.Machine.world c.args.m.now in
    let mid = g.M.Machine.core c.pass.new.m in
    let new = g.M.Machine.core c.deliver_all-in-loop-key.new.m in
    let taken : TakesTo w mid new = subst (λ v. TakesTo v mid new) (c.pass.ensures.world ∙ c.loop-key.invariant.0) c.deliver_all-in-loop-key.ensures.takes in
    let good : IsConsistent w mid = subst (λ v. IsConsistent v mid) c.loop-key.invariant.0 c.pass.ensures.under_way.consistent in
    record { consistent = takes_consistent w mid new taken good; horizon = takes_horizon w mid new mid.horizon taken refl ∙ (c.pass.ensures.under_way.horizon ∙ c.loop-key.invariant.2.horizon) }

pub returns-in_err-pass-clause-under_way : goal.returns-in_err-pass-clause-under_way
returns-in_err-pass-clause-under_way g c =
    let u = c.pass.ensures.under_way in
    record { consistent = subst (λ v. IsConsistent v (g.M.Machine.core c.pass.new.m)) c.loop-key.invariant.0 u.consistent; horizon = u.horizon ∙ c.loop-key.invariant.2.horizon }

pub returns-clause-under_way : goal.returns-clause-under_way
returns-clause-under_way g c = record { consistent = c.loop-key.invariant.2.consistent; horizon = c.loop-key.invariant.2.horizon }
