use Rattle.std.proofs.Common.{◌*◌, ◌^◌, ◌≤◌, refl, sym, subst}
use Rattle.std.specs.Prelude.{All}
use Rattle.std.proofs.lemmas.List.Elements.{All-map}
use Rattle.surf_kinds.specs.declared.site.SiteState.{SiteState}
use Rattle.lattice.specs.Surface.{fresh}
use Rattle.surface_state.specs.SurfaceView.{SurfaceView}
use Rattle.plan.specs.Network.{Network}
use Rattle.plan.specs.Products.{LeavesWithin}
use Rattle.one_engine.proofs.LawLemmas.{first_settled}
use Rattle.warp_core.specs.Configs.{IsFresh}
use Rattle.crew.proofs.tests.is_like_one.Goals as goal

pub new-requires-3-clause-fresh : goal.new-requires-3-clause-fresh
new-requires-3-clause-fresh g c = subst (λ (v : SurfaceView). All IsFresh v.sites) (sym c.in_ok-start.ensures) (All-map IsFresh fresh _ (λ i d h. (refl, refl)))

pub new-requires-5-clause-versions : goal.new-requires-5-clause-versions
new-requires-5-clause-versions g c = subst (λ (v : SurfaceView). All (λ (s : SiteState). s.version ≤ 7 * s.last) v.sites) (sym c.in_ok-start.ensures) (λ k d h. (first_settled _ k d h).version)

pub new-requires-5-clause-lasts : goal.new-requires-5-clause-lasts
new-requires-5-clause-lasts g c = subst (λ (v : SurfaceView). All (λ (s : SiteState). s.last ≤ 10 ^ 15) v.sites) (sym c.in_ok-start.ensures) (λ k d h. (first_settled _ k d h).last)

pub new-requires-5-clause-species : goal.new-requires-5-clause-species
new-requires-5-clause-species g c =
    subst (λ (v : SurfaceView). All (LeavesWithin v.species_count) c.in_ok-again.again.rules) (sym c.in_ok-start.ensures) (subst (λ (n : Network). All (LeavesWithin 4) n.rules) (sym c.in_ok-again.ensures) c.rules_of-rules.ensures)
