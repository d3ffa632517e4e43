-- What a plain run needs of a surface within bounds; and cells that are drawn.
use Rattle.std.proofs.Common.{ℕ, ◌<◌, ◌^◌, List, sym, subst, All, IfSome, inl, inr}
use Rattle.std.proofs.lemmas.Option.{slice_get_cases}
use Rattle.surf_kinds.specs.declared.site.SiteState.{SiteState}
use Rattle.lattice.specs.Shape.{Shape}
use Rattle.lattice.specs.Surface.{HasRoom}
use Rattle.plan.specs.Bounds.{IsWithinBounds}

pub within_room : (l : Shape) (sites : List SiteState) (place : ℕ) → All IsWithinBounds sites → HasRoom l sites place
within_room l sites place h s site = elim ((slice_get_cases sites s).1) [
  | inl q ↦ subst (λ o. IfSome o (λ (x : SiteState). x.version < 2 ^ 53)) (sym q.2) (subst (λ (x : SiteState). x.version < 2 ^ 53) q.3 ((h s q.0 q.1).version))
  | inr q ↦ subst (λ o. IfSome o (λ (x : SiteState). x.version < 2 ^ 53)) (sym q.1) _
]
