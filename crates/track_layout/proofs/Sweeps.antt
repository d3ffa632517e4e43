-- How a net gets its track, and how a track becomes free again.
use Rattle.std.proofs.Common.{◌≡◌, ℕ, ◌<◌, ◌≤◌, ◌⊎◌, inl, inr, List, length, Bool, true, false, refl, sym, ap, ◌∙◌, subst, arith}
use Rattle.std.specs.Prelude.{slice_set}
use Rattle.std.proofs.lemmas.Bool.{cases_lt, cases_eq}
use Rattle.std.proofs.lemmas.List.{get_or-set_same, get_or-set_other, length-set}
use Rattle.circuit_text.specs.Circuits.{NetList}
use Rattle.track_layout.specs.Spans.{first, last}
use Rattle.track_layout.specs.Tracks.{IsBefore, track_in, HasLeast}
use Rattle.track_layout.specs.Free.{Gives}
use Rattle.track_layout.specs.Sweep.{IsSwept, IsNext}

bit_absurd : (b : Bool) → b ≡ true → b ≡ false → ⊥
bit_absurd true t f = cc
bit_absurd false t f = cc

-- the order of the nets
pub before_self : (c : NetList) (n : ℕ) → IsBefore c n n → ⊥
before_self c n b = elim b [ inl lt ↦ omega (arith, lt) | inr e ↦ omega (arith, e.1) ]

pub before_trans : (c : NetList) (l m n : ℕ) → IsBefore c l m → IsBefore c m n → IsBefore c l n
before_trans c l m n a b = elim a [
  | inl x ↦ elim b [ inl y ↦ inl (omega (arith, x, y)) | inr y ↦ inl (omega (arith, x, y.0)) ]
  | inr x ↦ elim b [ inl y ↦ inl (omega (arith, x.0, y)) | inr y ↦ inr (omega (arith, x.0, y.0), omega (arith, x.1, y.1)) ]
]

pub one_before : (c : NetList) (m n : ℕ) → (m ≡ n → ⊥) → IsBefore c m n ⊎ IsBefore c n m
one_before c m n other = elim (cases_lt (first c m) (first c n)) [
  | inl lt ↦ inl (inl lt)
  | inr ge ↦ elim (cases_lt (first c n) (first c m)) [
    | inl lt ↦ inr (inl lt)
    | inr le ↦ elim (cases_lt m n) [
      | inl lt ↦ inl (inr (omega (arith, ge, le), lt))
      | inr more ↦ inr (inr (omega (arith, ge, le), elim (cases_lt n m) [ inl lt ↦ lt | inr le2 ↦ absurd (other (omega (arith, more, le2))) ]))
    ]
  ]
]

-- two nets on one track don't meet
pub apart : (c : NetList) (tracks : List ℕ) (m n : ℕ) → m < length c.nets → n < length c.nets → HasLeast c tracks m → HasLeast c tracks n → (m ≡ n → ⊥) → track_in tracks m ≡ track_in tracks n
    → (last c m < first c n) ⊎ (last c n < first c m)
apart c tracks m n lm ln hm hn other same = elim (one_before c m n other) [
  | inl b ↦ inl (hn.0 m lm b same)
  | inr b ↦ inr (hm.0 n ln b (sym same))
]

-- other nets and other limits, of which the same can be said
pub keep : (c : NetList) (tracks : List ℕ) (count : ℕ) (free : ℕ → Bool) (P Q : ℕ → Type 0) (l m : ℕ → ℕ) → IsSwept c tracks count free P l
    → ((n : ℕ) → P n → Q n) → ((n : ℕ) → Q n → P n) → ((n : ℕ) → P n → last c n ≤ l n → last c n ≤ m n) → ((n : ℕ) → P n → last c n ≤ m n → last c n ≤ l n) → IsSwept c tracks count free Q m
keep c tracks count free P Q l m s to from on back = record {
  size = s.size;
  each = λ n q. s.each n (from n q);
  below = λ n q. s.below n (from n q);
  ended = λ k f. let e = s.ended k f in (e.0, λ n q t. on n (from n q) (e.1 n (from n q) t));
  busy = λ k lt f. let b = s.busy k lt f in (b.0, to b.0 b.1, b.2, elim (cases_lt (m b.0) (last c b.0)) [ inl less ↦ less | inr le ↦ absurd (let z = back b.0 b.1 le in omega (arith, z, b.3)) ]);
  used = λ k lt. let u = s.used k lt in (u.0, to u.0 u.1, u.2);
}

-- the track of a net becomes free
pub release : (c : NetList) (tracks : List ℕ) (count : ℕ) (free after : ℕ → Bool) (P : ℕ → Type 0) (l m : ℕ → ℕ) (n : ℕ) → IsSwept c tracks count free P l → P n → last c n ≤ m n
    → ((i : ℕ) → P i → (i ≡ n → ⊥) → last c i ≤ l i → last c i ≤ m i) → ((i : ℕ) → P i → (i ≡ n → ⊥) → last c i ≤ m i → last c i ≤ l i)
    → ((i : ℕ) → P i → (i ≡ n → ⊥) → track_in tracks i ≡ track_in tracks n → last c i ≤ m i) → Gives free after (track_in tracks n) → IsSwept c tracks count after P m
release c tracks count free after P l m n s is ends on back same gives = record {
  size = s.size;
  each = s.each;
  below = s.below;
  ended = λ k f. elim (cases_eq k (track_in tracks n)) [
    | inl e ↦ (subst (λ j. j < count) (sym e) (s.below n is), λ i p t. elim (cases_eq i n) [ inl i_is ↦ subst (λ j. last c j ≤ m j) (sym i_is) ends | inr other ↦ same i p other (t ∙ e) ])
    | inr e ↦
        let old = s.ended k (sym (gives.1 k e) ∙ f) in
        (old.0, λ i p t. on i p (λ i_is. e (sym t ∙ ap (track_in tracks) i_is)) (old.1 i p t))
  ];
  busy = λ k lt f. elim (cases_eq k (track_in tracks n)) [
    | inl e ↦ absurd (bit_absurd (after k) (ap after e ∙ gives.0) f)
    | inr e ↦
        let b = s.busy k lt (sym (gives.1 k e) ∙ f) in
        let other : b.0 ≡ n → ⊥ = λ i_is. e (sym b.2 ∙ ap (track_in tracks) i_is) in
        (b.0, b.1, b.2, elim (cases_lt (m b.0) (last c b.0)) [ inl less ↦ less | inr le ↦ absurd (let z = back b.0 b.1 other le in omega (arith, z, b.3)) ])
  ];
  used = s.used;
}

-- what is taken before a net doesn't change
stays : (c : NetList) (tracks : List ℕ) (n k m : ℕ) → IsBefore c m n → HasLeast c tracks m → HasLeast c (slice_set tracks n k) m
stays c tracks n k m b h = (
  λ i lt a e. h.0 i lt a (sym (same i (λ is. before_self c n (subst (λ j. IsBefore c j n) is (before_trans c i m n a b)))) ∙ e ∙ own),
  λ j lt free. h.1 j (subst (λ x. j < x) own lt) (λ i below a e. free i below a (same i (λ is. before_self c n (subst (λ z. IsBefore c z n) is (before_trans c i m n a b))) ∙ e)),
)
  where
    same : (i : ℕ) → (i ≡ n → ⊥) → track_in (slice_set tracks n k) i ≡ track_in tracks i
    same i other = get_or-set_other tracks n i k 0 other

    own : track_in (slice_set tracks n k) m ≡ track_in tracks m
    own = same m (λ is. before_self c n (subst (λ z. IsBefore c z n) is b))

pub place : (c : NetList) (tracks : List ℕ) (count more k n : ℕ) (free after : ℕ → Bool) (P : ℕ → Type 0) (l : ℕ → ℕ) → IsSwept c tracks count free P l → n < length c.nets
    → ((m : ℕ) → P m → (m < length c.nets) × IsBefore c m n) → ((m : ℕ) → m < length c.nets → IsBefore c m n → P m)
    → ((m : ℕ) → P m → last c m < first c n → last c m ≤ l m) → ((m : ℕ) → P m → last c m ≤ l m → last c m < first c n) → l n < last c n → IsNext free after count more k
    → IsSwept c (slice_set tracks n k) more after (λ m. P m ⊎ (m ≡ n)) l
place c tracks count more k n free after P l s lt before all to from ends next = record {
  size = length-set tracks n k ∙ s.size;
  each = λ m p. elim p [ inl old ↦ stays c tracks n k m (before m old).1 (s.each m old) | inr is ↦ subst (HasLeast c (slice_set tracks n k)) (sym is) least ];
  below = λ m p. elim p [
    | inl old ↦ let b = s.below m old in subst (λ j. j < more) (sym (same m (differs m old))) (omega (arith, b, next.grows))
    | inr is ↦ subst (λ j. track_in (slice_set tracks n k) j < more) (sym is) (subst (λ j. j < more) (sym at) next.within)
  ];
  ended = λ j f. elim (cases_eq j k) [
    | inl e ↦ absurd (bit_absurd (after k) (sym (ap after e) ∙ f) next.gone)
    | inr e ↦
        let old = s.ended j (sym (next.others j e) ∙ f) in (
          omega (arith, old.0, next.grows),
          λ m p t. elim p [ inl q ↦ old.1 m q (sym (same m (differs m q)) ∙ t) | inr is ↦ absurd (e (sym t ∙ ap (track_in (slice_set tracks n k)) is ∙ at)) ],
        )
  ];
  busy = λ j below f. elim (cases_eq j k) [
    | inl e ↦ (n, inr refl, at ∙ sym e, ends)
    | inr e ↦
        let b = s.busy j (elim (next.only j below) [ inl x ↦ x | inr x ↦ absurd (e x) ]) (sym (next.others j e) ∙ f) in
        (b.0, inl b.1, same b.0 (differs b.0 b.1) ∙ b.2, b.3)
  ];
  used = λ j below. elim (cases_eq j k) [
    | inl e ↦ (n, inr refl, at ∙ sym e)
    | inr e ↦
        let b = s.used j (elim (next.only j below) [ inl x ↦ x | inr x ↦ absurd (e x) ]) in
        (b.0, inl b.1, same b.0 (differs b.0 b.1) ∙ b.2)
  ];
}
  where
    differs : (m : ℕ) → P m → m ≡ n → ⊥
    differs m p is = before_self c n (subst (λ z. IsBefore c z n) is (before m p).1)

    same : (i : ℕ) → (i ≡ n → ⊥) → track_in (slice_set tracks n k) i ≡ track_in tracks i
    same i other = get_or-set_other tracks n i k 0 other

    at : track_in (slice_set tracks n k) n ≡ k
    at = get_or-set_same tracks n k 0 (omega (arith, lt, s.size))

    ends_before : (m : ℕ) → P m → track_in tracks m ≡ k → last c m < first c n
    ends_before m p t = elim next.own [
      | inl f ↦ from m p ((s.ended k f).1 m p t)
      | inr is ↦ absurd (let b = s.below m p in omega (arith, b, t, is))
    ]

    least : HasLeast c (slice_set tracks n k) n
    least = (
      λ m below b e. ends_before m (all m below b) (sym (same m (differs m (all m below b))) ∙ e ∙ at),
      λ j below free_at.
          let low = next.lower j (subst (λ x. j < x) at below) in
          let b = s.busy j low.0 low.1 in
          let w = before b.0 b.1 in
          let ended = free_at b.0 w.0 w.1 (same b.0 (differs b.0 b.1) ∙ b.2) in
          let z = to b.0 b.1 ended in
          omega (arith, z, b.3),
    )
