-- The places of items.
use Rattle.std.proofs.Common.{◌≡◌, ℕ, suc, ◌+◌, ◌<◌, ◌≤◌, Bool, true, false, not, ◌==◌, List, [], ◌∷◌, ◌++◌, length, get_or, slice_set, replicate, refl, sym, ap, ◌∙◌, arith, subst, eqb-true, eq-eqb, ne_eqb}
use Rattle.std.specs.List.{position_or_len, range_with_len}
use Rattle.std.proofs.lemmas.List.{length-append, length-set, length-replicate, get_or-set_same, get_or-set_other, get_or-replicate}
use Rattle.std.proofs.lemmas.Bool.{false≢true}
use Rattle.bench_read.specs.Order.{is_placed, place_of, first_unplaced}
use Rattle.bench_read.specs.Placing.{AreLocated}
use Rattle.bench_read.proofs.Orders.{placed-last, placed-other, place-last, place-other, place-within, first-is}

pub none-located : (n : ℕ) → AreLocated [] (replicate n 4294967295)
none-located n = record {
  few = omega arith;
  placed = λ d lt h. absurd (false≢true h);
  unplaced = λ d lt h.
      let mark : ℕ = 4294967295 in
      get_or-replicate n d mark 0 (omega (arith, lt, length-replicate n mark));
}

pub located-more : (order places : List ℕ) (x : ℕ) → AreLocated order places → x < length places → is_placed order x ≡ false → length order < 131072
    → AreLocated (order ++ x ∷ []) (slice_set places x (length order))
located-more order places x at within new room = record {
  few = omega (arith, length-append order (x ∷ []), room);
  placed = λ d lt h. was_placed d (omega (arith, lt, length-set places x (length order))) h (d == x) refl;
  unplaced = λ d lt h. was_not d (omega (arith, lt, length-set places x (length order))) h (d == x) refl;
}
  where
    was_placed : (d : ℕ) → d < length places → is_placed (order ++ x ∷ []) d ≡ true → (b : Bool) → (d == x) ≡ b → get_or (slice_set places x (length order)) d 0 ≡ place_of (order ++ x ∷ []) d
    was_placed d lt h true e =
        subst (λ z. get_or (slice_set places x (length order)) z 0 ≡ place_of (order ++ x ∷ []) z) (sym (eqb-true d x e))
        (get_or-set_same places x (length order) 0 within ∙ sym (place-last order x new))
    was_placed d lt h false e =
        let ne : d ≡ x → ⊥ = λ same. false≢true (sym e ∙ eq-eqb d x same) in
        let old : is_placed order d ≡ true = sym (placed-other order x d ne) ∙ h in
        get_or-set_other places x d (length order) 0 ne ∙ at.placed d lt old ∙ sym (place-other order x d old)

    was_not : (d : ℕ) → d < length places → is_placed (order ++ x ∷ []) d ≡ false → (b : Bool) → (d == x) ≡ b → get_or (slice_set places x (length order)) d 0 ≡ 4294967295
    was_not d lt h true e = absurd (false≢true (sym h ∙ ap (is_placed (order ++ x ∷ [])) (eqb-true d x e) ∙ placed-last order x))
    was_not d lt h false e =
        let ne : d ≡ x → ⊥ = λ same. false≢true (sym e ∙ eq-eqb d x same) in
        get_or-set_other places x d (length order) 0 ne ∙ at.unplaced d lt (sym (placed-other order x d ne) ∙ h)

-- an item has the mark exactly where it isn't placed
pub marked : (order places : List ℕ) (d : ℕ) → AreLocated order places → d < length places → not (get_or places d 0 == 4294967295) ≡ is_placed order d
marked order places d at lt = by (is_placed order d) refl
  where
    by : (b : Bool) → is_placed order d ≡ b → not (get_or places d 0 == 4294967295) ≡ is_placed order d
    by true h =
        let below : place_of order d < length order = place-within order d h in
        let few = at.few in
        let is = at.placed d lt h in
        ap not (ne_eqb (get_or places d 0) 4294967295 (λ e. omega (arith, e, is, below, few))) ∙ sym h
    by false h = ap not (eq-eqb (get_or places d 0) 4294967295 (at.unplaced d lt h)) ∙ sym h

-- the first item with the mark
pub first-marked : (order places : List ℕ) (i : ℕ) → AreLocated order places → i ≤ length places → ((k : ℕ) → k < i → get_or places k 0 ≡ 4294967295 → ⊥) → (i < length places → get_or places i 0 ≡ 4294967295)
    → first_unplaced (length places) order ≡ i
first-marked order places i at most before here =
    first-is (λ d. not (is_placed order d)) (length places) i most
    (λ k lt. ap not (sym (marked order places k at (omega (arith, lt, most)))) ∙ ap (λ b. not (not b)) (ne_eqb (get_or places k 0) 4294967295 (before k lt)))
    (λ lt. ap not (sym (marked order places i at lt)) ∙ ap (λ b. not (not b)) (eq-eqb (get_or places i 0) 4294967295 (here lt)))
