-- The least of the clocks.
use Rattle.std.proofs.Common.{◌≡◌, ℕ, ◌+◌, ◌<◌, inl, inr, List, length, sym, ap, ◌∙◌, subst, arith, cond, slice_index_or, if◌then◌else◌}
use Rattle.std.proofs.lemmas.Bool.{cases_Bool}
use Rattle.std.proofs.lemmas.Bool.Decides.{eqb_tells}
use Rattle.std.proofs.lemmas.List.{get_or_default}
use Rattle.surf_kinds.specs.declared.event.Key.{Key}
use Rattle.surf_kinds.specs.Keys.{is_before, ◌is_upto◌}
use Rattle.surf_kinds.proofs.Order.{le_refl, le_le, lt_to_le}
use Rattle.region_run.specs.declared.region.Region.{Region}
use Rattle.crew.specs.Calls.{IsUptoClock, IsClockOf}

lesser_upto : (least clock res : Key) → res ≡ (if is_before clock least then clock else least) → (res is_upto least) × (res is_upto clock)
lesser_upto least clock res is =
    elim (cases_Bool (is_before clock least)) [
      | inl p ↦
          let same : res ≡ clock = is ∙ ap (λ t. cond t clock least) p in
          (subst (λ r. r is_upto least) (sym same) (lt_to_le clock least p), subst (λ r. r is_upto clock) (sym same) (le_refl clock))
      | inr p ↦
          let same : res ≡ least = is ∙ ap (λ t. cond t clock least) p in
          (subst (λ r. r is_upto least) (sym same) (le_refl least), subst (λ r. r is_upto clock) (sym same) p)
    ]

module _ (rs : List Region) (first : Key) (d0 : Region) (some : 0 < length rs) (is : first ≡ (slice_index_or rs 0 d0).clock) where
  pub first_least : (k : ℕ) (d : Region) → k < 1 → IsUptoClock first (slice_index_or rs k d)
  first_least k d lt =
      subst (λ m. IsUptoClock first (slice_index_or rs m d)) (sym (omega (arith, lt)))
      (record { is = subst (λ (r : Region). first is_upto r.clock) (get_or_default rs 0 d0 d some) (subst (λ c. first is_upto c) is (le_refl first)) })

  pub first_some : (d : Region) → (k : ℕ) × (k < length rs) × IsClockOf first (slice_index_or rs k d)
  first_some d = (0, some, record { is = is ∙ ap (λ (r : Region). r.clock) (get_or_default rs 0 d0 d some) })

module _ (rs : List Region) (i : ℕ) (least res : Key) (d0 : Region) (inside : i < length rs) (is : res ≡ (if is_before (slice_index_or rs i d0).clock least then (slice_index_or rs i d0).clock else least)) where
  pub least_more : ((k : ℕ) (d : Region) → k < i → IsUptoClock least (slice_index_or rs k d)) → (k : ℕ) (d : Region) → k < i + 1 → IsUptoClock res (slice_index_or rs k d)
  least_more h k d lt =
      let both = lesser_upto least (slice_index_or rs i d0).clock res is in
      elim (eqb_tells k i) [
        | inl q ↦ subst (λ m. IsUptoClock res (slice_index_or rs m d)) (sym q.1) (record { is = subst (λ (r : Region). res is_upto r.clock) (get_or_default rs i d0 d inside) both.1 })
        | inr q ↦ record { is = le_le res least (slice_index_or rs k d).clock both.0 (h k d (omega (arith, lt, q.1))).is }
      ]

  pub some_more : ((d : Region) → (k : ℕ) × (k < length rs) × IsClockOf least (slice_index_or rs k d)) → (d : Region) → (k : ℕ) × (k < length rs) × IsClockOf res (slice_index_or rs k d)
  some_more h d =
      elim (cases_Bool (is_before (slice_index_or rs i d0).clock least)) [
        | inl p ↦ (i, inside, record { is = (is ∙ ap (λ t. cond t (slice_index_or rs i d0).clock least) p) ∙ ap (λ (r : Region). r.clock) (get_or_default rs i d0 d inside) })
        | inr p ↦ let o = h d in (o.0, o.1, record { is = (is ∙ ap (λ t. cond t (slice_index_or rs i d0).clock least) p) ∙ o.2.is })
      ]
