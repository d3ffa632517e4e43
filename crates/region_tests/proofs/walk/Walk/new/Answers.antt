use Rattle.std.proofs.Common.{All, arith, refl, sym, subst}
use Rattle.std.proofs.lemmas.List.Elements.{All-map}
use Rattle.lattice.specs.Surface.{fresh}
use Rattle.warp_core.specs.Configs.{IsFresh}
use Rattle.region_run.specs.Starts.{first_base}
use Rattle.region_tests.proofs.walk.Walk.new.Goals as goal

pub new-requires-3-clause-fresh : goal.new-requires-3-clause-fresh
new-requires-3-clause-fresh c = subst (λ v. All IsFresh v.sites) (sym c.in_ok-surface.ensures) (All-map IsFresh fresh c.args.cells.now (λ i d h. (refl, refl)))

pub invariant_of-result : goal.invariant_of-result
invariant_of-result c = (first_base c.in_ok-surface.surface, c.in_ok-region.ensures.region 5 (omega arith))
