-- The own events of the regions, list after list.
use Rattle.std.proofs.Common.{◌≡◌, ℕ, ◌+◌, ◌<◌, inl, inr, List, [], ◌∷◌, ◌++◌, length, refl, sym, ap, ◌∙◌, subst, arith, slice_index_or}
use Rattle.std.proofs.lemmas.Bool.Decides.{eqb_tells}
use Rattle.std.proofs.lemmas.List.{length-append, get_or_append_left, get_or_default}
use Rattle.surf_kinds.specs.declared.event.Event.{Event}
use Rattle.surf_kinds.specs.declared.event.Key.{Key}
use Rattle.region_run.specs.declared.region.Region.{Region}
use Rattle.crew.specs.Calls.{IsOwnBelow, AreOwnBelow}

last_is : (xs : List (List Event)) (y d : List Event) → slice_index_or (xs ++ y ∷ []) (length xs) d ≡ y
last_is [] y d = refl
last_is (x ∷ xs) y d = last_is xs y d

pub own_more : (key : Key) (rs : List Region) (i : ℕ) (d0 : Region) (lists : List (List Event)) (own : List Event) → i < length rs → AreOwnBelow key rs i lists → IsOwnBelow key (slice_index_or rs i d0) own → AreOwnBelow key rs (i + 1) (lists ++ own ∷ [])
own_more key rs i d0 lists own inside h o =
    record {
      len = omega (arith, length-append lists (own ∷ []), h.len);
      each = λ k d lt.
          elim (eqb_tells k i) [
            | inl q ↦
                let is : slice_index_or (lists ++ own ∷ []) i [] ≡ own = subst (λ n. slice_index_or (lists ++ own ∷ []) n [] ≡ own) h.len (last_is lists own []) in
                subst (λ m. IsOwnBelow key (slice_index_or rs m d) (slice_index_or (lists ++ own ∷ []) m [])) (sym q.1)
                (subst (IsOwnBelow key (slice_index_or rs i d)) (sym is) (subst (λ r. IsOwnBelow key r own) (get_or_default rs i d0 d inside) o))
            | inr q ↦
                let low : k < i = omega (arith, lt, q.1) in
                subst (IsOwnBelow key (slice_index_or rs k d)) (sym (get_or_append_left lists (own ∷ []) [] k (omega (arith, low, h.len)))) (h.each k d low)
          ];
    }
