use Rattle.std.proofs.Common.{◌≡◌, ℕ, ◌/◌, Option, Some, None, inl, inr, sym, ap, ◌∙◌}
use Rattle.std.specs.Bool.{Decides}
use Rattle.std.specs.Option.{option_eq}
use Rattle.std.specs.Prelude.{nat_eq}
use Rattle.std.proofs.lemmas.Bool.{false≢true, eq-eqb}
use Rattle.std.proofs.lemmas.Bool.Decides.{Decides-at, Decides-eqb}
use Rattle.std.proofs.lemmas.Option.{none-some, same_Some}
use Rattle.regions.specs.Bands.{Bands, region_of}
use Rattle.regions.proofs.Owners.{above}
use Rattle.regions.proofs.Sights.{sees_by_row}
use Rattle.regions.proofs.cut.Cut.sees.Goals as goal

pub returns-then-region_of-region : goal.returns-then-region_of-region
returns-then-region_of-region c =
    let cols = c.cols.ensures.cols ∙ ap (λ (b : Bands). b.lattice.cols) c.self.view_is in
    let own = sym (c.region_of.ensures.region ∙ ap (λ k. region_of c.args.self.now (c.args.site.0 / k)) cols) ∙ c.if-region_of-region.true in
    sees_by_row c.args.self.now c.args.region c.args.site.0 _ c.requires.site (λ _. inl own, λ _. eq-eqb _ _ c.if-region_of-region.true)

Decides-option_eq : (o : Option ℕ) (r : ℕ) → Decides (option_eq nat_eq o (Some r)) (o ≡ Some r)
Decides-option_eq None r = (λ e. absurd (false≢true e), λ e. absurd (none-some r e))
Decides-option_eq (Some x) r = let d = Decides-eqb x r in (λ e. ap (λ k. Some k) (d.0 e), λ e. d.1 (same_Some x r e))

pub returns-else-region_of-region : goal.returns-else-region_of-region
returns-else-region_of-region c =
    let cols = c.cols.ensures.cols ∙ ap (λ (b : Bands). b.lattice.cols) c.self.view_is in
    let own = c.region_of.ensures.region ∙ ap (λ k. region_of c.args.self.now (c.args.site.0 / k)) cols in
    let up_is = c.region_above.ensures ∙ ap (λ k. above c.args.self.now (c.args.site.0 / k)) cols in
    let same = Decides-at c.eq.result _ c.eq.ensures (Decides-option_eq c.region_above.result c.args.region) in
    sees_by_row c.args.self.now c.args.region c.args.site.0 c.eq.result c.requires.site (
      λ e. inr (sym up_is ∙ same.0 e),
      λ x. elim x [ inl is ↦ absurd (c.if-region_of-region.false (own ∙ is)) | inr is ↦ same.1 (up_is ∙ is) ],
    )
