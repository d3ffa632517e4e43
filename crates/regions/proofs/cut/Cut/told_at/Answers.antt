use Rattle.std.proofs.Common.{◌≡◌, ℕ, Option, Some, ◌↔◌, sym, ap, ◌∙◌, subst}
use Rattle.std.proofs.lemmas.Bool.{both_ways}
use Rattle.std.proofs.lemmas.Option.{none-some}
use Rattle.lattice.specs.Rows.{goes_down}
use Rattle.regions.specs.Bands.{region_of}
use Rattle.regions.proofs.Owners.{above, below, sites_at}
use Rattle.regions.proofs.Tellings.{IsOtherAbove, IsOtherBelow, told_listed}
use Rattle.regions.proofs.cut.Cut.told_at.Goals as goal
use Rattle.regions.proofs.cut.Cut.told_at.Goals.{then-goes_down, else-goes_down}

other_is : (found other : Option ℕ) (owner own : ℕ) (at : Option ℕ) → found ≡ at → owner ≡ own
    → ((r : ℕ) → (other ≡ Some r) ↔ ((found ≡ Some r) × (owner ≡ r → ⊥)))
    → (r : ℕ) → (other ≡ Some r) ↔ ((at ≡ Some r) × (own ≡ r → ⊥))
other_is found other owner own at e o h = subst (λ k. (r : ℕ) → (other ≡ Some r) ↔ ((k ≡ Some r) × (own ≡ r → ⊥))) e (subst (λ k. (r : ℕ) → (other ≡ Some r) ↔ ((found ≡ Some r) × (k ≡ r → ⊥))) o h)

pub returns-clause-told : goal.returns-clause-told
returns-clause-told c =
    let b = c.args.self.now in
    let place = c.args.place.0 in
    let p = sites_at b.lattice place c.requires in
    let row = c.row_of-row.ensures.row in
    let own = c.region_of-owner.ensures.region ∙ ap (region_of b) row in
    let up_is = c.region_above.ensures ∙ ap (above b) row in
    let up : IsOtherAbove b place c.other-above.result = other_is _ _ _ _ _ up_is own c.other-above.ensures in
    let down : IsOtherBelow b place c.if-goes_down.below = elim c.if-goes_down.branch [
      | then-goes_down w ↦
          let down_is = w.region_below.ensures ∙ ap (below b) row in
          let is = other_is _ _ _ _ _ down_is own w.other-below.ensures in
          subst (IsOtherBelow b place) (sym w.below-is) (λ r. (λ e. let x = (is r).0 e in (sym c.goes_down.ensures ∙ w.if-goes_down.true, x.0, x.1), λ x. (is r).1 (x.1, x.2)))
      | else-goes_down w ↦ subst (IsOtherBelow b place) (sym w.below-is) (λ r. (λ e. absurd (none-some r e), λ x. absurd (both_ways (goes_down place) (sym c.goes_down.ensures ∙ w.if-goes_down.false) x.0)))
    ] in
    let listed = told_listed b place p.0 c.other-above.result c.if-goes_down.below p.1 up down in
    record {
      rising = c.of.ensures.rising;
      exactly = λ region. (λ t. (c.of.ensures.listed region).0 ((listed region).0 t), λ h. (listed region).1 ((c.of.ensures.listed region).1 h));
    }
