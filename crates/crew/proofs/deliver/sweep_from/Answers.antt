use Rattle.std.proofs.Common.{◌≡◌, ◌≢◌, ◌<◌, ◌∙◌, ◌||◌, inl, inr, sym, ap, subst, arith}
use Rattle.warp_core.specs.World.{World}
use Rattle.warp_core.specs.Cores.{IsConsistent}
use Rattle.warp_core.specs.Settling.{TakesTo}
use Rattle.warp_core.specs.SettlingLoops.{Swept, RowEmpty}
use Rattle.warp_core.proofs.LawLemmas.{takes_consistent, takes_join}
use Rattle.crew.specs.Crews.{ToEmpty}
use Rattle.crew.proofs.Sweeping.{swept_both}
use Rattle.crew.proofs.deliver.sweep_from.Goals as goal

pub drain_to-requires-clause-to : goal.drain_to-requires-clause-to
drain_to-requires-clause-to g c i e = c.neighbours-neighbours.ensures.inside i (inl e)

pub drain_to-requires-2-clause-to : goal.drain_to-requires-2-clause-to
drain_to-requires-2-clause-to g c i e = subst (λ (v : World). (i < v.regions) × (c.args.from ≢ i)) (sym c.drain_to.ensures.world) (c.neighbours-neighbours.ensures.inside i (inr e))

pub drain_to-requires-2-clause-good : goal.drain_to-requires-2-clause-good
drain_to-requires-2-clause-good g c =
    subst (λ v. IsConsistent v (g.M.Machine.core c.drain_to.new.m)) (sym c.drain_to.ensures.world)
    (takes_consistent (g.M.Machine.world c.args.m.now) (g.M.Machine.core c.args.m.now) (g.M.Machine.core c.drain_to.new.m) c.drain_to.ensures.takes c.requires.good)

pub returns-in_err-second-clause-takes : goal.returns-in_err-second-clause-takes
returns-in_err-second-clause-takes g c =
    takes_join (g.M.Machine.world c.args.m.now) (g.M.Machine.core c.args.m.now) (g.M.Machine.core c.drain_to.new.m) (g.M.Machine.core c.drain_to-2.new.m) c.drain_to.ensures.takes
    (subst (λ v. TakesTo v (g.M.Machine.core c.drain_to.new.m) (g.M.Machine.core c.drain_to-2.new.m)) c.drain_to.ensures.world c.drain_to-2.ensures.takes)

pub returns-then-first-clause-takes : goal.returns-then-first-clause-takes
returns-then-first-clause-takes g c =
    takes_join (g.M.Machine.world c.args.m.now) (g.M.Machine.core c.args.m.now) (g.M.Machine.core c.drain_to.new.m) (g.M.Machine.core c.drain_to-2.new.m) c.drain_to.ensures.takes
    (subst (λ v. TakesTo v (g.M.Machine.core c.drain_to.new.m) (g.M.Machine.core c.drain_to-2.new.m)) c.drain_to.ensures.world c.drain_to-2.ensures.takes)

pub returns-else-first-clause-takes : goal.returns-else-first-clause-takes
returns-else-first-clause-takes g c =
    takes_join (g.M.Machine.world c.args.m.now) (g.M.Machine.core c.args.m.now) (g.M.Machine.core c.drain_to.new.m) (g.M.Machine.core c.drain_to-2.new.m) c.drain_to.ensures.takes
    (subst (λ v. TakesTo v (g.M.Machine.core c.drain_to.new.m) (g.M.Machine.core c.drain_to-2.new.m)) c.drain_to.ensures.world c.drain_to-2.ensures.takes)

pub returns-then-first-clause-swept : goal.returns-then-first-clause-swept
returns-then-first-clause-swept g c =
    let w = g.M.Machine.world c.args.m.now in
    let old = g.M.Machine.core c.args.m.now in
    let mid = g.M.Machine.core c.drain_to.new.m in
    let new = g.M.Machine.core c.drain_to-2.new.m in
    let first = c.neighbours-neighbours.result.first in
    let second = c.neighbours-neighbours.result.second in
    let swept : Swept w mid new c.in_ok-second.second (ToEmpty c.args.from second) = subst (λ v. Swept v mid new c.in_ok-second.second (ToEmpty c.args.from second)) c.drain_to.ensures.world c.in_ok-second.ensures.swept in
    let one : c.in_ok-first.first || c.in_ok-second.second ≡ c.in_ok-first.first = ap (λ t. t || c.in_ok-second.second) c.if-first.true ∙ sym c.if-first.true in
    subst (λ t. Swept w old new t (RowEmpty c.args.from c.args.n)) one
    (swept_both w old mid new c.args.from c.args.n first second (λ i h p q. c.neighbours-neighbours.ensures.others i (omega (arith, h, c.requires.inside.0)) p q) c.in_ok-first.first c.in_ok-second.second c.in_ok-first.ensures.swept swept)

pub returns-else-first-clause-swept : goal.returns-else-first-clause-swept
returns-else-first-clause-swept g c =
    let w = g.M.Machine.world c.args.m.now in
    let old = g.M.Machine.core c.args.m.now in
    let mid = g.M.Machine.core c.drain_to.new.m in
    let new = g.M.Machine.core c.drain_to-2.new.m in
    let first = c.neighbours-neighbours.result.first in
    let second = c.neighbours-neighbours.result.second in
    let swept : Swept w mid new c.in_ok-second.second (ToEmpty c.args.from second) = subst (λ v. Swept v mid new c.in_ok-second.second (ToEmpty c.args.from second)) c.drain_to.ensures.world c.in_ok-second.ensures.swept in
    let two : c.in_ok-first.first || c.in_ok-second.second ≡ c.in_ok-second.second = ap (λ t. t || c.in_ok-second.second) c.if-first.false in
    subst (λ t. Swept w old new t (RowEmpty c.args.from c.args.n)) two
    (swept_both w old mid new c.args.from c.args.n first second (λ i h p q. c.neighbours-neighbours.ensures.others i (omega (arith, h, c.requires.inside.0)) p q) c.in_ok-first.first c.in_ok-second.second c.in_ok-first.ensures.swept swept)
