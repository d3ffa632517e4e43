-- Regions at the start, one more of them.
use Rattle.std.proofs.Common.{◌≡◌, ℕ, zero, suc, ◌+◌, ◌<◌, List, [], ◌∷◌, ◌++◌, length, sym, subst, arith, slice_index_or, length-append}
use Rattle.surface_state.specs.SurfaceView.{SurfaceView}
use Rattle.warp_core.specs.Regions.{IsFirstRegion}
use Rattle.warp_core.specs.FirstRegions.{AreFirst}
use Rattle.warp_core.specs.declared.region.Region.{Region}

each_more : (P : Region → Type 0) (xs : List Region) (x : Region) → ((i : ℕ) (d : Region) → i < length xs → P (slice_index_or xs i d)) → P x → (i : ℕ) (d : Region) → i < length xs + 1 → P (slice_index_or (xs ++ x ∷ []) i d)
each_more P [] x h p zero d q = p
each_more P [] x h p (suc i) d q = absurd (omega (arith, q))
each_more P (y ∷ xs) x h p zero d q = h 0 d (omega arith)
each_more P (y ∷ xs) x h p (suc i) d q = each_more P xs x (λ k e r. h (suc k) e (omega (arith, r))) p i d (omega (arith, q))

pub first_more : (start : SurfaceView) (count made : ℕ) (rs new : List Region) (r : Region) → AreFirst start count made rs → IsFirstRegion start count r → new ≡ rs ++ r ∷ [] → AreFirst start count (made + 1) new
first_more start count made rs new r a f is =
    subst (AreFirst start count (made + 1)) (sym is)
    (record {
      long = omega (arith, length-append rs (r ∷ []), a.long);
      each = λ i d h. each_more (IsFirstRegion start count) rs r (λ k e q. a.each k e (omega (arith, q, a.long))) f i d (omega (arith, h, a.long));
    })
