-- What the regions have below a key, list by list and merged, is what the core commits.
use Rattle.std.proofs.Common.{◌≡◌, ℕ, ◌<◌, inl, inr, refl, true, List, [], Some, length, sym, ap, ◌∙◌, subst, arith, slice_index_or}
use Rattle.std.specs.Prelude.{IsPermutation, nat_lt}
use Rattle.std.specs.List.{Contains}
use Rattle.std.proofs.lemmas.Bool.{cases_Bool, eqb-true, eq-eqb, or_left, or_right, ltb-true, ltb-false}
use Rattle.std.proofs.lemmas.Option.{none-some}
use Rattle.std.proofs.lemmas.List.{get_or_past, get_or_default}
use Rattle.std.proofs.lemmas.List.Sorted.{Contains-permutation, IsPermutation-sym}
use Rattle.surf_kinds.specs.declared.event.Event.{Event}
use Rattle.surf_kinds.specs.declared.event.Key.{Key}
use Rattle.surf_kinds.specs.Keys.{is_before, is_earlier, key_of, at, keep, below, AllKeys, IsRising, RiseStrictly}
use Rattle.surf_kinds.proofs.Order.{key_cases, upto_both}
use Rattle.surf_kinds.proofs.Tables.{same_tables, IsRising_keep, none_or_some, at_keep_yes, AllKeys_kept, at_key}
use Rattle.surf_kinds.proofs.Rising.{strictly, rises}
use Rattle.ordered_commit.specs.Merge.{all_events, AreMergeable, HaveOtherKeys}
use Rattle.warp_core.specs.World.{World, IsWorld, is_own}
use Rattle.warp_core.specs.Cores.{Core, IsConsistent}
use Rattle.warp_core.specs.Steps.{MayCommit, own_events_below}
use Rattle.warp_core.proofs.Theory.Cuts.{at_below, at_below_none}
use Rattle.warp_core.proofs.Theory.Commits.{gathered_rising, gathered_late, gathered_has}
use Rattle.warp_core.proofs.Theory.Listed.{In, contains_in, in_contains, in_all, all_in, in_keys, at_member, member_at}

-- a list for each region: its own events below the key
module _ (w : World) (laws : IsWorld w) (c : Core) (good : IsConsistent w c) (k : Key) (may : MayCommit w c k) (lists : List (List Event)) (count_is : length lists ≡ w.regions) (list_is : (i : ℕ) → i < w.regions → slice_index_or lists i [] ≡ keep (is_own w i) (below k (c.part i).timeline)) where
  list_rises : (i : ℕ) → i < w.regions → IsRising (slice_index_or lists i [])
  list_rises i h = subst IsRising (sym (list_is i h)) (IsRising_keep (is_own w i) (below k (c.part i).timeline) (IsRising_keep (λ j. is_before j k) (c.part i).timeline (good.sound i h).local.rising))

  list_own : (i : ℕ) (e : Event) → i < w.regions → In e (slice_index_or lists i []) → w.owner e.place.0 ≡ i
  list_own i e h m =
      eqb-true (w.owner e.place.0) i
      (in_keys (λ j. is_own w i j ≡ true) e (slice_index_or lists i []) (subst (AllKeys (λ j. is_own w i j ≡ true)) (sym (list_is i h)) (AllKeys_kept (is_own w i) (below k (c.part i).timeline))) m)

  inside_of : (i : ℕ) → i < length lists → i < w.regions
  inside_of i h = omega (arith, h, count_is)

  other_keys : (e f : Event) → (key_of e ≡ key_of f → ⊥) → HaveOtherKeys e f
  other_keys e f apart =
      elim (key_cases (key_of e) (key_of f)) [
        | inl p ↦ or_left (is_earlier e f) (is_earlier f e) p
        | inr p ↦ elim (key_cases (key_of f) (key_of e)) [
          | inl q ↦ or_right (is_earlier e f) (is_earlier f e) q
          | inr q ↦ absurd (apart (upto_both (key_of e) (key_of f) q p))
        ]
      ]

  contains_inside : (i : ℕ) (e : Event) → Contains (slice_index_or lists i []) e → i < length lists
  contains_inside i e c =
      elim (cases_Bool (nat_lt i (length lists))) [
        | inl p ↦ ltb-true i (length lists) p
        | inr p ↦ absurd (contains_in e [] (subst (λ l. Contains l e) (get_or_past lists i [] (ltb-false i (length lists) p)) c))
      ]

  pub mergeable : AreMergeable lists
  mergeable =
      record {
        rise = λ i d h. subst RiseStrictly (get_or_default lists i [] d h) (strictly (slice_index_or lists i []) (list_rises i (inside_of i h)));
        differ = λ i j e f lt ce cf.
            other_keys e f
            (λ q. omega (
              arith,
              lt,
              sym (list_own i e (inside_of i (contains_inside i e ce)) (contains_in e (slice_index_or lists i []) ce))
                  ∙ (ap (λ (key : Key). w.owner key.place.0) q
                  ∙ list_own j f (inside_of j (contains_inside j f cf)) (contains_in f (slice_index_or lists j []) cf)),
            ));
      }

  module _ (merged : List Event) (all : IsPermutation (all_events lists) merged) (order : RiseStrictly merged) where
    rising : IsRising merged
    rising = rises merged order

    in_merged : (i : ℕ) (e : Event) → i < w.regions → In e (slice_index_or lists i []) → In e merged
    in_merged i e h m = contains_in e merged (Contains-permutation (all_events lists) merged e all (in_contains e (all_events lists) (all_in e lists i (omega (arith, h, count_is)) m)))

    merged_in : (e : Event) → In e merged → (i : ℕ) × (i < w.regions) × In e (slice_index_or lists i [])
    merged_in e m =
        let r = in_all e lists (contains_in e (all_events lists) (Contains-permutation merged (all_events lists) e (IsPermutation-sym (all_events lists) merged all) (in_contains e merged m))) in
        (r.0, inside_of r.0 r.1, r.2)

    same_at : (q : Key) → at q merged ≡ at q (slice_index_or lists (w.owner q.place.0) [])
    same_at q =
        let o = w.owner q.place.0 in
        let inside : o < w.regions = laws.owned q.place.0 in
        elim (none_or_some (at q (slice_index_or lists (w.owner q.place.0) []))) [
          | inr found ↦
              let key : key_of found.0 ≡ q = at_key q (slice_index_or lists o []) found.0 found.1 in
              subst (λ j. at j merged ≡ Some found.0) key (at_member found.0 merged rising (in_merged o found.0 inside (member_at q (slice_index_or lists o []) found.0 found.1))) ∙ sym found.1
          | inl none ↦ elim (none_or_some (at q merged)) [
            | inl empty ↦ empty ∙ sym none
            | inr found ↦
                let key : key_of found.0 ≡ q = at_key q merged found.0 found.1 in
                let r = merged_in found.0 (member_at q merged found.0 found.1) in
                let same : r.0 ≡ o = sym (list_own r.0 found.0 r.1 r.2) ∙ ap (λ (j : Key). w.owner j.place.0) key in
                absurd (none-some found.0 (sym none
                ∙ subst (λ j. at j (slice_index_or lists o []) ≡ Some found.0) key
                (at_member found.0 (slice_index_or lists o []) (list_rises o inside) (subst (λ m. In found.0 (slice_index_or lists m [])) same r.2))))
          ]
        ]

    pub merged_is : merged ≡ own_events_below w c k w.regions
    merged_is =
        same_tables merged (own_events_below w c k w.regions) rising (gathered_rising w laws c k good may w.regions)
        (λ q.
        let o = w.owner q.place.0 in
        let inside : o < w.regions = laws.owned q.place.0 in
        same_at q ∙ (ap (at q) (list_is o inside)
        ∙ (at_keep_yes (is_own w o) q (below k (c.part o).timeline) (eq-eqb o o refl)
        ∙ elim (key_cases q k) [
          | inl u ↦ at_below k q (c.part o).timeline u ∙ sym (gathered_has w laws c k good may w.regions q u inside)
          | inr late ↦ at_below_none k q (c.part o).timeline late ∙ sym (gathered_late w laws c k good may w.regions q late)
        ])))
