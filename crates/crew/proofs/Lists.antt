-- Regions of a list, before and after a call.
use Rattle.std.proofs.Common.{◌≡◌, ◌≢◌, ◌⊎◌, ℕ, ◌+◌, zero, suc, ◌<◌, ◌≤◌, inl, inr, Bool, true, false, List, [], ◌∷◌, length, refl, sym, ap, ◌∙◌, subst, arith, Option, Some, None, slice_index_or, set}
use Rattle.std.specs.Prelude.{slice_get, nat_lt, map, option_map, ◌*◌}
use Rattle.std.proofs.lemmas.Bool.{cases_Bool, ltb-true, ltb-false}
use Rattle.std.proofs.lemmas.Bool.Decides.{eqb_tells}
use Rattle.std.proofs.lemmas.Option.{same_Some, slice_get_past, slice_get_within, slice_get-get_or, get_or_from_slice_get}
use Rattle.std.proofs.lemmas.List.{get_or_default, get_or-set_same, get_or-set_other}
use Rattle.region_run.specs.declared.totals.Turn.{Turn}
use Rattle.region_run.specs.declared.region.Region.{Region}
use Rattle.crew.specs.Crews.{turns_of}
use Rattle.region_run.specs.Runs.{HasSpare}
use Rattle.crew.specs.Calls.{ChangesOne, ChangesTwo, ChangesEach, HasRoomMade}
use Rattle.crew.specs.Rounds.{IsOne, IsTwo}
use Rattle.crew.proofs.Present.{member}

same_at : (rs rs' : List Region) (d : Region) (k : ℕ) → length rs' ≡ length rs → slice_index_or rs' k d ≡ slice_index_or rs k d → slice_get rs' k ≡ slice_get rs k
same_at rs rs' d k len e =
    elim (cases_Bool (nat_lt k (length rs))) [
      | inl p ↦ let h = ltb-true k (length rs) p in slice_get-get_or rs' k d (omega (arith, h, len)) ∙ (ap (λ (x : Region). Some x) e ∙ sym (slice_get-get_or rs k d h))
      | inr p ↦ let h = ltb-false k (length rs) p in slice_get_past rs' k (omega (arith, h, len)) ∙ sym (slice_get_past rs k h)
    ]

pub one_changed : (P : Region → Region → Type 0) (rs : List Region) (i : ℕ) (rs' : List Region) → ChangesOne P rs i rs' → i < length rs → (r : Region) × (t : Region) × IsOne rs rs' i r t × P r t
one_changed P rs i rs' c h =
    let m = member rs i h in
    let r = m.0 in
    let t = slice_index_or rs' i r in (
      r,
      t,
      record { len = c.len; old_at = m.1; new_at = slice_get-get_or rs' i r (omega (arith, h, c.len)); others = λ k n. same_at rs rs' r k c.len (c.others k r n) },
      subst (λ x. P x t) (get_or_from_slice_get rs i r r m.1) (c.it r),
    )

pub two_changed : (P : Region → Region → Region → Region → Type 0) (rs : List Region) (j i : ℕ) (rs' : List Region) → ChangesTwo P rs j i rs' → j ≢ i → j < length rs → i < length rs
    → (f : Region) × (t : Region) × (f' : Region) × (t' : Region) × IsTwo rs rs' j i f t f' t' × P f t f' t'
two_changed P rs j i rs' c apart hj hi =
    let mf = member rs j hj in
    let mt = member rs i hi in
    let f = mf.0 in
    let t = mt.0 in
    let f' = slice_index_or rs' j f in
    let t' = slice_index_or rs' i f in (
      f,
      t,
      f',
      t',
      record {
        apart = apart;
        len = c.len;
        old_from = mf.1;
        old_to = mt.1;
        new_from = slice_get-get_or rs' j f (omega (arith, hj, c.len));
        new_to = slice_get-get_or rs' i f (omega (arith, hi, c.len));
        others = λ k m n. same_at rs rs' f k c.len (c.others k f m n);
      },
      subst (λ x. P x t f' t') (get_or_from_slice_get rs j f f mf.1) (subst (λ x. P (slice_index_or rs j f) x f' t') (get_or_from_slice_get rs i t f mt.1) (c.they f)),
    )

pub each_changed : (P : Region → Region → Type 0) (rs rs' : List Region) → ChangesEach P rs rs' → (i : ℕ) (r t : Region) → slice_get rs i ≡ Some r → slice_get rs' i ≡ Some t → P r t
each_changed P rs rs' c i r t a b =
    subst (λ x. P r x) (get_or_from_slice_get rs' i t r b) (subst (λ x. P x (slice_index_or rs' i r)) (get_or_from_slice_get rs i r r a) (c.each i r (slice_get_within rs i r a)))

-- the region there before and after, or none
pub both_there : (rs rs' : List Region) → length rs' ≡ length rs → (k : ℕ) → ((r : Region) × (t : Region) × (slice_get rs k ≡ Some r) × (slice_get rs' k ≡ Some t)) ⊎ ((slice_get rs k ≡ None) × (slice_get rs' k ≡ None))
both_there rs rs' len k =
    elim (cases_Bool (nat_lt k (length rs))) [
      | inl p ↦
          let h = ltb-true k (length rs) p in
          let r = member rs k h in
          let t = member rs' k (omega (arith, h, len)) in
          inl (r.0, t.0, r.1, t.1)
      | inr p ↦ let h = ltb-false k (length rs) p in inr (slice_get_past rs k h, slice_get_past rs' k (omega (arith, h, len)))
    ]

-- what holds of each member holds of the member there
pub all_at : (P : Region → Type 0) (rs : List Region) → ((i : ℕ) (r : Region) → slice_get rs i ≡ Some r → P r) → (i : ℕ) (d : Region) → i < length rs → P (slice_index_or rs i d)
all_at P rs h i d inside = h i (slice_index_or rs i d) (slice_get-get_or rs i d inside)

-- the turns of the regions
abbrev turns_if : Option Region → Option (ℕ × Turn)
turns_if o = option_map turns_of o

pub same_turns : (rs rs' : List Region) → ((i : ℕ) → turns_if (slice_get rs' i) ≡ turns_if (slice_get rs i)) → map turns_of rs' ≡ map turns_of rs
same_turns [] [] h = refl
same_turns [] (t ∷ ts) h = absurd (Rattle.std.proofs.lemmas.Option.none-some (turns_of t) (sym (h 0)))
same_turns (r ∷ rs) [] h = absurd (Rattle.std.proofs.lemmas.Option.none-some (turns_of r) (h 0))
same_turns (r ∷ rs) (t ∷ ts) h = λ e. same_Some (turns_of t) (turns_of r) (h 0) e ∷ same_turns rs ts (λ i. h (suc i)) e

pub one_turns : (rs rs' : List Region) (i : ℕ) (r t : Region) → IsOne rs rs' i r t → turns_of t ≡ turns_of r → map turns_of rs' ≡ map turns_of rs
one_turns rs rs' i r t one same =
    same_turns rs rs'
    (λ k. elim (eqb_tells k i) [
      | inl p ↦ subst (λ x. turns_if (slice_get rs' x) ≡ turns_if (slice_get rs x)) (sym p.1) (ap turns_if one.new_at ∙ (ap (λ (x : ℕ × Turn). Some x) same ∙ sym (ap turns_if one.old_at)))
      | inr p ↦ ap turns_if (one.others k p.1)
    ])

pub two_turns : (rs rs' : List Region) (j i : ℕ) (f t f' t' : Region) → IsTwo rs rs' j i f t f' t' → turns_of f' ≡ turns_of f → turns_of t' ≡ turns_of t → map turns_of rs' ≡ map turns_of rs
two_turns rs rs' j i f t f' t' two same_from same_to =
    same_turns rs rs'
    (λ k. elim (eqb_tells k j) [
      | inl p ↦ subst (λ x. turns_if (slice_get rs' x) ≡ turns_if (slice_get rs x)) (sym p.1) (ap turns_if two.new_from ∙ (ap (λ (x : ℕ × Turn). Some x) same_from ∙ sym (ap turns_if two.old_from)))
      | inr p ↦ elim (eqb_tells k i) [
        | inl q ↦ subst (λ x. turns_if (slice_get rs' x) ≡ turns_if (slice_get rs x)) (sym q.1) (ap turns_if two.new_to ∙ (ap (λ (x : ℕ × Turn). Some x) same_to ∙ sym (ap turns_if two.old_to)))
        | inr q ↦ ap turns_if (two.others k p.1 q.1)
      ]
    ])

pub each_turns : (rs rs' : List Region) → length rs' ≡ length rs → ((i : ℕ) (r t : Region) → slice_get rs i ≡ Some r → slice_get rs' i ≡ Some t → turns_of t ≡ turns_of r) → map turns_of rs' ≡ map turns_of rs
each_turns rs rs' len same =
    same_turns rs rs'
    (λ k. elim (both_there rs rs' len k) [
      | inl m ↦ ap turns_if m.3 ∙ (ap (λ (x : ℕ × Turn). Some x) (same k m.0 m.1 m.2 m.3) ∙ sym (ap turns_if m.2))
      | inr m ↦ ap turns_if m.1 ∙ sym (ap turns_if m.0)
    ])

-- a loop over the regions that changes each
pub past_more : (P : Region → Region → Type 0) (old rs : List Region) (i : ℕ) (d0 new : Region) → i < length rs → length rs ≡ length old → P (slice_index_or rs i d0) new → ((k : ℕ) (d : Region) → k < i → P (slice_index_or old k d) (slice_index_or rs k d))
    → ((k : ℕ) (d : Region) → i ≤ k → slice_index_or rs k d ≡ slice_index_or old k d) → (k : ℕ) (d : Region) → k < i + 1 → P (slice_index_or old k d) (slice_index_or (set rs i new) k d)
past_more P old rs i d0 new inside len f past rest k d lt =
    elim (eqb_tells k i) [
      | inl q ↦ subst (λ m. P (slice_index_or old m d) (slice_index_or (set rs i new) m d)) (sym q.1)
          (subst (λ r. P (slice_index_or old i d) r) (sym (get_or-set_same rs i new d inside)) (subst (λ r. P r new) (get_or_default rs i d0 d inside ∙ rest i d (omega (arith))) f))
      | inr q ↦ subst (λ r. P (slice_index_or old k d) r) (sym (get_or-set_other rs i k new d q.1)) (past k d (omega (arith, lt, q.1)))
    ]

pub rest_stays : (old rs : List Region) (i : ℕ) (new : Region) → ((k : ℕ) (d : Region) → i ≤ k → slice_index_or rs k d ≡ slice_index_or old k d) → (k : ℕ) (d : Region) → i + 1 ≤ k → slice_index_or (set rs i new) k d ≡ slice_index_or old k d
rest_stays old rs i new rest k d le = get_or-set_other rs i k new d (λ e. omega (arith, le, e)) ∙ rest k d (omega (arith, le))

-- the same, where a loop ends at i and the others stay
pub all_more : (P : Region → Region → Type 0) (old rs : List Region) (i : ℕ) (d0 new : Region) → i < length rs → length rs ≡ length old → P (slice_index_or rs i d0) new → ((k : ℕ) (d : Region) → k < i → P (slice_index_or old k d) (slice_index_or rs k d))
    → ((k : ℕ) (d : Region) → i ≤ k → slice_index_or rs k d ≡ slice_index_or old k d) → ((r : Region) → P r r) → (k : ℕ) (d : Region) → P (slice_index_or old k d) (slice_index_or (set rs i new) k d)
all_more P old rs i d0 new inside len f past rest same k d =
    elim (cases_Bool (nat_lt k (i + 1))) [
      | inl p ↦ past_more P old rs i d0 new inside len f past rest k d (ltb-true k (i + 1) p)
      | inr p ↦
          let le = ltb-false k (i + 1) p in
          subst (P (slice_index_or old k d)) (sym (rest_stays old rs i new rest k d le)) (same (slice_index_or old k d))
    ]

-- room was made, and it is there
pub record HasPrepared (quota : ℕ) (old new : Region) : Type 0 where
  pub made : HasRoomMade old new
  pub spare : HasSpare (2 * quota) new

pub room_refl : (r : Region) → HasRoomMade r r
room_refl r = record { same = record { id = refl; part = refl; line = λ l. refl; ends = λ l. refl; region = λ n b until x g. g }; totals = refl }
