-- The neighbours of a region, each once.
use Rattle.std.proofs.Common.{◌≡◌, ◌≢◌, ℕ, ◌⊎◌, ◌↔◌, inl, inr, Option, Some, sym, ◌∙◌}
use Rattle.regions.specs.Bands.{Bands}
use Rattle.regions.specs.Neighbours.{region_before, region_after, IsNeighbour, AreNeighbours}

pub listed : (b : Bands) (id : ℕ) (x y first second last : Option ℕ) → x ≡ region_before b id → y ≡ region_after b id → ((r : ℕ) → (first ≡ Some r) ↔ ((x ≡ Some r) × (id ≢ r))) → ((r : ℕ) → (second ≡ Some r) ↔ ((y ≡ Some r) × (id ≢ r)))
    → ((r : ℕ) → (last ≡ Some r) ↔ ((second ≡ Some r) × (first ≢ Some r))) → ((r : ℕ) → (first ≡ Some r) ⊎ (first ≢ Some r)) → AreNeighbours b id first last
listed b id x y first second last xe ye f s t dec =
    record {
      exactly = λ l. (there l, back l);
      apart = λ l p q. ((t l).0 q).1 p;
    }
  where
    there : (l : ℕ) → (first ≡ Some l) ⊎ (last ≡ Some l) → IsNeighbour b id l
    there l h =
        elim h [
          | inl p ↦ let a = (f l).0 p in (a.1, inl (sym xe ∙ a.0))
          | inr q ↦ let a = (s l).0 ((t l).0 q).0 in (a.1, inr (sym ye ∙ a.0))
        ]

    back : (l : ℕ) → IsNeighbour b id l → (first ≡ Some l) ⊎ (last ≡ Some l)
    back l h =
        elim h.1 [
          | inl p ↦ inl ((f l).1 (xe ∙ p, h.0))
          | inr q ↦ elim (dec l) [
            | inl p ↦ inl p
            | inr p ↦ inr ((t l).1 ((s l).1 (ye ∙ q, h.0), p))
          ]
        ]
