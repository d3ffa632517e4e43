use Rattle.std.proofs.Common.{All, arith, refl, sym, subst}
use Rattle.std.proofs.lemmas.List.Elements.{All-map}
use Rattle.lattice.specs.Surface.{fresh}
use Rattle.warp_core.specs.Configs.{IsFresh}
use Rattle.region_tests.proofs.Pairs.{made, new_ring}
use Rattle.region_tests.proofs.pair_tests.Pair.new.Goals as goal

pub new-requires-3-clause-fresh : goal.new-requires-3-clause-fresh
new-requires-3-clause-fresh c = subst (λ v. All IsFresh v.sites) (sym c.in_ok-surface.ensures) (All-map IsFresh fresh c.args.cells.now (λ i d h. (refl, refl)))

pub new-requires-4-clause-fresh : goal.new-requires-4-clause-fresh
new-requires-4-clause-fresh c = subst (λ v. All IsFresh v.sites) (sym c.in_ok-surface.ensures) (All-map IsFresh fresh c.args.cells.now (λ i d h. (refl, refl)))

pub invariant_of-result : goal.invariant_of-result
invariant_of-result c =
    made _ _ _ _ _ _ _ _ _ c.in_ok-upper.ensures c.in_ok-lower.ensures c.in_ok-attach.ensures.ok c.in_ok-attach-2.ensures.ok
    (c.attach.ensures.region _ _ 5 _ (c.in_ok-upper.ensures.region 5 (omega arith))) (c.attach-2.ensures.region _ _ 5 _ (c.in_ok-lower.ensures.region 5 (omega arith)))
    (new_ring _ _ c.in_ok-down.ensures.one c.in_ok-down.ensures.inn.0, new_ring _ _ c.in_ok-up.ensures.one c.in_ok-up.ensures.inn.0)
