-- As many spans have the first column of a net of the last track as there are tracks.
use Rattle.std.proofs.Common.{◌≡◌, ℕ, zero, suc, ◌+◌, ◌<◌, ◌≤◌, ◌⊎◌, inl, inr, List, length, Bool, true, false, refl, sym, ap, ◌∙◌, subst, arith, ◌==◌}
use Rattle.std.specs.Prelude.{◌&&◌, ◌||◌}
use Rattle.std.proofs.lemmas.Bool.{cases_lt, cases_eq, and_parts, eqb-true, eq-eqb}
use Rattle.std.proofs.lemmas.Bool.Decides.{eqb_tells}
use Rattle.circuit_text.specs.Values.{AreNets}
use Rattle.circuit_text.specs.Circuits.{NetList}
use Rattle.track_layout.specs.Spans.{first, last, spans, one_if}
use Rattle.track_layout.specs.Tracks.{IsBefore, track_in, AreTracks}
use Rattle.track_layout.specs.Crowd.{crowd, AreShared}
use Rattle.track_layout.proofs.Sweeps.{apart}
use Rattle.track_layout.proofs.Ended.{first_last}
use Rattle.track_layout.proofs.Placing.{in_span, span_parts}

-- how many numbers below a bound pass a test
abbrev count_to : (ℕ → Bool) → ℕ → ℕ
count_to p zero = 0
count_to p (suc k) = one_if (p k) + count_to p k

few_count : (p : ℕ → Bool) (r : ℕ) → count_to p r ≤ r
few_count p zero = omega arith
few_count p (suc k) = by (p k) (few_count p k)
  where
    by : (b : Bool) → count_to p k ≤ k → one_if b + count_to p k ≤ suc k
    by true f = omega (arith, f)
    by false f = omega (arith, f)

all_count : (p : ℕ → Bool) (r : ℕ) → ((k : ℕ) → k < r → p k ≡ true) → count_to p r ≡ r
all_count p zero all = refl
all_count p (suc k) all =
    let a : one_if (p k) ≡ 1 = ap one_if (all k (omega arith)) in
    let b = all_count p k (λ j lt. all j (omega (arith, lt))) in
    omega (arith, a, b)

same_count : (p q : ℕ → Bool) (r : ℕ) → ((k : ℕ) → k < r → q k ≡ p k) → count_to q r ≡ count_to p r
same_count p q zero same = refl
same_count p q (suc k) same =
    let a : one_if (q k) ≡ one_if (p k) = ap one_if (same k (omega arith)) in
    let b = same_count p q k (λ j lt. same j (omega (arith, lt))) in
    omega (arith, a, b)

one_more : (p q : ℕ → Bool) (r t : ℕ) → t < r → p t ≡ false → q t ≡ true → ((k : ℕ) → k < r → (k ≡ t → ⊥) → q k ≡ p k) → count_to q r ≡ 1 + count_to p r
one_more p q zero t lt was is same = absurd (omega (arith, lt))
one_more p q (suc k) t lt was is same = elim (cases_eq k t) [
  | inl e ↦
      let a : one_if (q k) ≡ 1 = ap one_if (ap q e ∙ is) in
      let b : one_if (p k) ≡ 0 = ap one_if (ap p e ∙ was) in
      let d = same_count p q k (λ j below. same j (omega (arith, below)) (λ z. omega (arith, below, z, e))) in
      omega (arith, a, b, d)
  | inr other ↦
      let a : one_if (q k) ≡ one_if (p k) = ap one_if (same k (omega arith) other) in
      let b = one_more p q k t (omega (arith, lt, other)) was is (λ j below more. same j (omega (arith, below)) more) in
      omega (arith, a, b)
]

-- whether one of the first nets spans the column on a row
abbrev held : (c : NetList) (row : ℕ → ℕ) (col b k : ℕ) → Bool
held c row col zero k = false
held c row col (suc b) k = ((row b == k) && spans c b col) || held c row col b k

held_is : (c : NetList) (row : ℕ → ℕ) (col b k : ℕ) → held c row col b k ≡ true → (m : ℕ) × (m < b) × (row m ≡ k) × (spans c m col ≡ true)
held_is c row col zero k is = absurd cc
held_is c row col (suc b) k is = by ((row b == k) && spans c b col) refl is (λ q. held_is c row col b k q)
  where
    by : (t : Bool) → ((row b == k) && spans c b col) ≡ t → (t || held c row col b k) ≡ true → (held c row col b k ≡ true → (m : ℕ) × (m < b) × (row m ≡ k) × (spans c m col ≡ true))
        → (m : ℕ) × (m < suc b) × (row m ≡ k) × (spans c m col ≡ true)
    by true e q before = let a = and_parts (row b == k) (spans c b col) e in (b, omega arith, eqb-true (row b) k a.0, a.1)
    by false e q before = let r = before q in (r.0, omega (arith, r.1), r.2, r.3)

held_by : (c : NetList) (row : ℕ → ℕ) (col b k m : ℕ) → m < b → row m ≡ k → spans c m col ≡ true → held c row col b k ≡ true
held_by c row col zero k m lt is sp = absurd (omega (arith, lt))
held_by c row col (suc b) k m lt is sp = elim (cases_eq m b) [
  | inl same ↦ ap (λ z. z || held c row col b k) (ap (λ z. z && spans c b col) (eq-eqb (row b) k (ap row (sym same) ∙ is)) ∙ ap (λ z. spans c z col) (sym same) ∙ sp)
  | inr other ↦ either ((row b == k) && spans c b col) (held_by c row col b k m (omega (arith, lt, other)) is sp)
]
  where
    either : (x : Bool) {y : Bool} → y ≡ true → (x || y) ≡ true
    either true e = refl
    either false e = e

bit_is : (b : Bool) → (b ≡ true → ⊥) → b ≡ false
bit_is true never = absurd (never refl)
bit_is false never = refl

-- as many nets span a column as rows are held there
pub crowd_rows : (c : NetList) (rows : ℕ) (row : ℕ → ℕ) (col : ℕ) → AreShared c rows row → (b : ℕ) → b ≤ length c.nets → crowd c b col ≡ count_to (held c row col b) rows
crowd_rows c rows row col shared zero le = sym (none rows)
  where
    none : (r : ℕ) → count_to (held c row col 0) r ≡ 0
    none zero = refl
    none (suc r) = let n = none r in omega (arith, n)
crowd_rows c rows row col shared (suc b) le = by (spans c b col) refl (crowd_rows c rows row col shared b (omega (arith, le)))
  where
    by : (t : Bool) → spans c b col ≡ t → crowd c b col ≡ count_to (held c row col b) rows → one_if (spans c b col) + crowd c b col ≡ count_to (held c row col (suc b)) rows
    by true sp before =
        let own : held c row col b (row b) ≡ false = bit_is _ (λ is. let m = held_is c row col b (row b) is in shared.1 m.0 b col (omega (arith, m.1, le)) (omega (arith, le)) (λ e. omega (arith, e, m.1)) m.2 m.3 sp) in
        let one = one_more (held c row col b) (held c row col (suc b)) rows (row b) (shared.0 b (omega (arith, le))) own (held_by c row col (suc b) (row b) b (omega arith) refl sp)
        (λ k lt other. let z : (row b == k) ≡ false = elim (eqb_tells (row b) k) [ inl t ↦ absurd (other (sym t.1)) | inr f ↦ f.0 ] in ap (λ z. (z && spans c b col) || held c row col b k) z) in
        let a : one_if (spans c b col) ≡ 1 = ap one_if sp in
        omega (arith, a, one, before)
    by false sp before =
        let a : one_if (spans c b col) ≡ 0 = ap one_if sp in
        let same = same_count (held c row col b) (held c row col (suc b)) rows (λ k lt. ap (λ z. z || held c row col b k) (ap (λ z. (row b == k) && z) sp ∙ none (row b == k))) in
        omega (arith, a, same, before)
      where
        none : (x : Bool) → (x && false) ≡ false
        none true = refl
        none false = refl

-- of the nets before another one, all end below it or one of a track doesn't
one_meets : (c : NetList) (tracks : List ℕ) (k n b : ℕ)
    → ((m : ℕ) → m < b → IsBefore c m n → track_in tracks m ≡ k → last c m < first c n) ⊎ ((m : ℕ) × (m < b) × IsBefore c m n × (track_in tracks m ≡ k) × (first c n ≤ last c m))
one_meets c tracks k n zero = inl (λ m lt b e. absurd (omega (arith, lt)))
one_meets c tracks k n (suc b) = elim (one_meets c tracks k n b) [
  | inr found ↦ inr (found.0, omega (arith, found.1), found.2, found.3, found.4)
  | inl all ↦ elim (cases_lt (last c b) (first c n)) [
    | inl lt ↦ inl (λ m below before e. elim (cases_eq m b) [ inl same ↦ subst (λ z. last c z < first c n) (sym same) lt | inr other ↦ all m (omega (arith, below, other)) before e ])
    | inr le ↦ elim (cases_eq (track_in tracks b) k) [
      | inr other ↦ inl (λ m below before e. elim (cases_eq m b) [ inl same ↦ absurd (other (ap (track_in tracks) (sym same) ∙ e)) | inr more ↦ all m (omega (arith, below, more)) before e ])
      | inl on ↦ elim (before_or c b n) [
        | inl before ↦ inr (b, omega arith, before, on, le)
        | inr not_before ↦ inl (λ m below before e. elim (cases_eq m b) [ inl same ↦ absurd (not_before (subst (λ z. IsBefore c z n) same before)) | inr more ↦ all m (omega (arith, below, more)) before e ])
      ]
    ]
  ]
]
  where
    before_or : (c : NetList) (m n : ℕ) → IsBefore c m n ⊎ (IsBefore c m n → ⊥)
    before_or c m n = elim (cases_lt (first c m) (first c n)) [
      | inl lt ↦ inl (inl lt)
      | inr ge ↦ elim (cases_eq (first c m) (first c n)) [
        | inr other ↦ inr (λ b. elim b [ inl lt ↦ omega (arith, lt, ge) | inr e ↦ other e.0 ])
        | inl same ↦ elim (cases_lt m n) [ inl lt ↦ inl (inr (same, lt)) | inr le ↦ inr (λ b. elim b [ inl lt ↦ omega (arith, lt, same) | inr e ↦ omega (arith, e.1, le) ]) ]
      ]
    ]

pub tracks_shared : (c : NetList) (tracks : List ℕ) (count : ℕ) → AreTracks c tracks count → AreShared c count (track_in tracks)
tracks_shared c tracks count are = (
  λ n lt. are.2 n lt,
  λ m n col lm ln other same sm sn.
      let a = span_parts c m col sm in
      let b = span_parts c n col sn in
      elim (apart c tracks m n lm ln (are.1 m lm) (are.1 n ln) other same) [ inl lt ↦ omega (arith, lt, a.1, b.0) | inr lt ↦ omega (arith, lt, b.1, a.0) ],
)

-- exactly so many spans have the first column of a net of the last track
pub crowd_is : (c : NetList) (tracks : List ℕ) (count n : ℕ) → AreNets c.nets → AreTracks c tracks count → n < length c.nets → track_in tracks n + 1 ≡ count → crowd c (length c.nets) (first c n) ≡ count
crowd_is c tracks count n nets are lt on =
    crowd_rows c count (track_in tracks) (first c n) (tracks_shared c tracks count are) (length c.nets) (omega arith)
    ∙ all_count (held c (track_in tracks) (first c n) (length c.nets)) count (λ k below. elim (cases_eq k (track_in tracks n)) [
      | inl same ↦ held_by c (track_in tracks) (first c n) (length c.nets) k n lt (sym same) (in_span c n (first c n) (omega arith) (first_last c n nets lt))
      | inr other ↦ elim (one_meets c tracks k n (length c.nets)) [
        | inl free ↦ absurd ((are.1 n lt).1 k (omega (arith, below, other, on)) free)
        | inr m ↦ held_by c (track_in tracks) (first c n) (length c.nets) k m.0 m.1 m.3 (in_span c m.0 (first c n) (elim m.2 [ inl less ↦ omega (arith, less) | inr e ↦ omega (arith, e.0) ]) m.4)
      ]
    ])

-- no sharing of rows by these spans has fewer
pub no_fewer : (c : NetList) (tracks : List ℕ) (count n : ℕ) → AreNets c.nets → AreTracks c tracks count → n < length c.nets → track_in tracks n + 1 ≡ count → (rows : ℕ) (row : ℕ → ℕ) → AreShared c rows row → count ≤ rows
no_fewer c tracks count n nets are lt on rows row shared =
    let a = crowd_is c tracks count n nets are lt on in
    let b = crowd_rows c rows row (first c n) shared (length c.nets) (omega arith) in
    let f = few_count (held c row (first c n) (length c.nets)) rows in
    omega (arith, a, b, f)
