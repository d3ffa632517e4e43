use Rattle.std.proofs.Common.{sym, subst}
use Rattle.surf_kinds.specs.Keys.{◌is_upto◌}
use Rattle.surf_kinds.proofs.Order.{le_refl}
use Rattle.region_tests.proofs.walk.Walk.commit.Goals as goal

pub invariant_of-self : goal.invariant_of-self
invariant_of-self c =
    let w = c.self.invariant in
    let r = c.self.inside.region in
    let done = c.commit_below.ensures.committed _ _ 5 w.0 w.1 (subst (λ k. w.0.floor is_upto k) (sym c.clock.ensures) w.1.sound.low) (subst (λ k. k is_upto r.clock) (sym c.clock.ensures) (le_refl r.clock)) in
    (done.base_after, done.region)
