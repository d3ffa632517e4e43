-- First and last columns, and the cells of tracks, one after the other.
use Rattle.std.proofs.Common.{◌≡◌, ℕ, suc, ◌+◌, ◌*◌, ◌^◌, ◌<◌, ◌≤◌, inl, inr, List, length, Option, Some, None, Bool, true, false, refl, sym, ap, ◌∙◌, subst, arith, get_or, ◌==◌, if◌then◌else◌}
use Rattle.std.specs.Prelude.{slice_set, nat_le, nat_lt, ◌&&◌, ◌||◌}
use Rattle.std.proofs.lemmas.Bool.{cases_lt, cases_eq, eq-eqb, and_parts, leb-true, le-leb, lt-ltb, le-ltb}
use Rattle.std.proofs.lemmas.Bool.Decides.{leb_tells, eqb_tells}
use Rattle.std.proofs.Math.Nat.{mul-le-mul_left, mul-le-mul_right}
use Rattle.std.proofs.lemmas.List.{get_or-set_same, get_or-set_other, length-set}
use Rattle.circuit_text.specs.Circuits.{NetList}
use Rattle.gate_layout.specs.Nets.{gate_count, net_of}
use Rattle.gate_layout.specs.Placed.{column_of, column_net, col_count}
use Rattle.gate_layout.proofs.LawLemmas.{source_facts}
use Rattle.track_layout.specs.Spans.{first, last, spans, is_this, last_by, is_output, last_among}
use Rattle.track_layout.specs.Tracks.{track_in, AreTracks, running}
use Rattle.track_layout.specs.Sweep.{AreLasts, AreEnds, AreFirsts, AreCells}
use Rattle.track_layout.proofs.Ended.{this_is, is_this_true, last_within}
use Rattle.track_layout.proofs.Placing.{span_parts, in_span}

not_this : (n : ℕ) (o : Option ℕ) (t : ℕ) → o ≡ Some t → (n ≡ t → ⊥) → is_this n o ≡ false
not_this n o t is other = by (is_this n o) refl
  where
    by : (b : Bool) → is_this n o ≡ b → b ≡ false
    by false e = refl
    by true e = absurd (let s = this_is n o e in let z : Some n ≡ Some t = sym s ∙ is in other cc)

-- a column has its net, and no other
pub column_noted : (c : NetList) (lasts : List ℕ) (col t : ℕ) → column_net c.nets (column_of (gate_count c.nets) (col + 1)) ≡ Some t → t < length c.nets → AreLasts c lasts col → AreLasts c (slice_set lasts t (col + 1)) (col + 1)
column_noted c lasts col t is lt are = (length-set lasts t (col + 1) ∙ are.0, each)
  where
    e : col + 1 ≡ suc col
    e = omega arith

    own : column_net c.nets (column_of (gate_count c.nets) (suc col)) ≡ Some t
    own = subst (λ z. column_net c.nets (column_of (gate_count c.nets) z) ≡ Some t) e is

    each : (n : ℕ) → n < length c.nets → get_or (slice_set lasts t (col + 1)) n 0 ≡ last_by c.nets (col + 1) n
    each n below = subst (λ z. get_or (slice_set lasts t (col + 1)) n 0 ≡ last_by c.nets z n) (sym e) (elim (cases_eq n t) [
      | inl same ↦
          ap (λ j. get_or (slice_set lasts t (col + 1)) j 0) same ∙ get_or-set_same lasts t (col + 1) 0 (omega (arith, lt, are.0)) ∙ e
          ∙ sym (ap (λ b. if b then suc col else last_by c.nets col n) (is_this_true n _ (own ∙ ap (λ m. Some m) (sym same))))
      | inr other ↦ get_or-set_other lasts t n (col + 1) 0 other ∙ are.1 n below ∙ sym (ap (λ b. if b then suc col else last_by c.nets col n) (not_this n _ t own other))
    ])

pub column_empty : (c : NetList) (lasts : List ℕ) (col : ℕ) → column_net c.nets (column_of (gate_count c.nets) (col + 1)) ≡ None → AreLasts c lasts col → AreLasts c lasts (col + 1)
column_empty c lasts col is are = (are.0, λ n below. subst (λ z. get_or lasts n 0 ≡ last_by c.nets z n) (sym e) (are.1 n below ∙ sym (ap (λ o. if is_this n o then suc col else last_by c.nets col n) own)))
  where
    e : col + 1 ≡ suc col
    e = omega arith

    own : column_net c.nets (column_of (gate_count c.nets) (suc col)) ≡ None
    own = subst (λ z. column_net c.nets (column_of (gate_count c.nets) z) ≡ None) e is

pub output_noted : (c : NetList) (lasts : List ℕ) (i t : ℕ) → get_or c.outputs i 0 ≡ t → t < length c.nets → AreEnds c lasts i → AreEnds c (slice_set lasts t (6 * gate_count c.nets + 2)) (i + 1)
output_noted c lasts i t is lt are = (length-set lasts t (6 * gate_count c.nets + 2) ∙ are.0, each)
  where
    e : i + 1 ≡ suc i
    e = omega arith

    each : (n : ℕ) → n < length c.nets → get_or (slice_set lasts t (6 * gate_count c.nets + 2)) n 0 ≡ last_among c (i + 1) n
    each n below = subst (λ z. get_or (slice_set lasts t (6 * gate_count c.nets + 2)) n 0 ≡ last_among c z n) (sym e) (elim (cases_eq n t) [
      | inl same ↦
          ap (λ j. get_or (slice_set lasts t (6 * gate_count c.nets + 2)) j 0) same ∙ get_or-set_same lasts t (6 * gate_count c.nets + 2) 0 (omega (arith, lt, are.0))
          ∙ sym (ap (λ b. if b || is_output c.outputs i n then 6 * gate_count c.nets + 2 else last_by c.nets (6 * gate_count c.nets) n) (eq-eqb (get_or c.outputs i 0) n (is ∙ sym same)))
      | inr other ↦
          get_or-set_other lasts t n (6 * gate_count c.nets + 2) 0 other ∙ are.1 n below
          ∙ sym (let f : (get_or c.outputs i 0 == n) ≡ false = elim (eqb_tells (get_or c.outputs i 0) n) [ inl x ↦ absurd (other (sym x.1 ∙ is)) | inr f ↦ f.0 ] in ap (λ b. if b || is_output c.outputs i n then 6 * gate_count c.nets + 2 else last_by c.nets (6 * gate_count c.nets) n) f)
    ])

pub gate_noted : (c : NetList) (firsts : List ℕ) (g t : ℕ) → net_of c.nets g ≡ t → t < length c.nets → first c t ≡ 6 * g + 5 → AreFirsts c firsts g → AreFirsts c (slice_set firsts t (6 * g + 5)) (g + 1)
gate_noted c firsts g t is lt at are = (
  length-set firsts t (6 * g + 5) ∙ are.0,
  λ n below less. elim (cases_eq n t) [
    | inl same ↦ ap (λ j. get_or (slice_set firsts t (6 * g + 5)) j 0) same ∙ get_or-set_same firsts t (6 * g + 5) 0 (omega (arith, lt, are.0)) ∙ sym at ∙ ap (first c) (sym same)
    | inr other ↦ get_or-set_other firsts t n (6 * g + 5) 0 other ∙ are.1 n below (elim (source_facts c.nets n below) [
      | inl z ↦ omega (arith, z)
      | inr h ↦ elim (cases_lt h.0 g) [
        | inl low ↦ omega (arith, low, h.2)
        | inr high ↦ absurd (other (source_one c n t below lt (omega (arith, high, less, h.2, at)) (omega (arith, at))))
      ]
    ])
  ],
)
  where
    -- two nets that begin at one rise are one
    source_one : (c : NetList) (n t : ℕ) → n < length c.nets → t < length c.nets → first c n ≡ first c t → 0 < first c t → n ≡ t
    source_one c n t ln lt same some = elim (source_facts c.nets n ln) [
      | inl z ↦ absurd (omega (arith, z, same, some))
      | inr a ↦ elim (source_facts c.nets t lt) [
        | inl z ↦ absurd (omega (arith, z, some))
        | inr b ↦ let e : Some n ≡ Some t = sym a.3 ∙ ap (λ z. column_net c.nets (column_of (gate_count c.nets) z)) same ∙ b.3 in cc
      ]
    ]

-- a net runs along its span, on its track
pub net_laid : (c : NetList) (tracks : List ℕ) (count n : ℕ) (cells after : List (Option ℕ)) → n < length c.nets → AreCells c tracks count cells n → length after ≡ length cells
    → ((i : ℕ) → get_or after i None ≡ (if nat_le (track_in tracks n * col_count c.nets + first c n) i && nat_le i (track_in tracks n * col_count c.nets + last c n) then Some n else get_or cells i None))
    → AreCells c tracks count after (n + 1)
net_laid c tracks count n cells after lt are size laid = (size ∙ are.0, λ k col below within. laid (k * w + col) ∙ subst (λ z. (if nat_le (t * w + first c n) (k * w + col) && nat_le (k * w + col) (t * w + last c n) then Some n else get_or cells (k * w + col) None) ≡ running c tracks z k col) (sym e) (by k col below within))
  where
    w : ℕ
    w = col_count c.nets

    t : ℕ
    t = track_in tracks n

    e : n + 1 ≡ suc n
    e = omega arith

    -- cells of other tracks lie apart
    lower : (a b x : ℕ) → a < b → x < w → a * w + x < b * w
    lower a b x less small =
        let m : (a + 1) * w ≤ b * w = mul-le-mul_right w (omega (arith, less)) in
        let d : (a + 1) * w ≡ a * w + w = omega arith in
        omega (arith, m, d, small)

    ends : last c n < w
    ends = let l = last_within c n in omega (arith, l)

    test_no : (k col : ℕ) → col < w → (k ≡ t → ⊥) → (nat_le (t * w + first c n) (k * w + col) && nat_le (k * w + col) (t * w + last c n)) ≡ false
    test_no k col within other = bit_no _ (λ is.
        let a = and_parts (nat_le (t * w + first c n) (k * w + col)) (nat_le (k * w + col) (t * w + last c n)) is in
        let from = leb-true (t * w + first c n) (k * w + col) a.0 in
        let to = leb-true (k * w + col) (t * w + last c n) a.1 in
        elim (cases_lt k t) [
          | inl less ↦ let l = lower k t col less within in omega (arith, l, from)
          | inr ge ↦ let l = lower t k (last c n) (omega (arith, ge, other)) ends in omega (arith, l, to)
        ])
      where
        bit_no : (b : Bool) → (b ≡ true → ⊥) → b ≡ false
        bit_no true never = absurd (never refl)
        bit_no false never = refl

    test_same : (col : ℕ) → (nat_le (t * w + first c n) (t * w + col) && nat_le (t * w + col) (t * w + last c n)) ≡ spans c n col
    test_same col = by (spans c n col) refl
      where
        by : (b : Bool) → spans c n col ≡ b → (nat_le (t * w + first c n) (t * w + col) && nat_le (t * w + col) (t * w + last c n)) ≡ b
        by true is =
            let s = span_parts c n col is in
            ap (λ b. b && nat_le (t * w + col) (t * w + last c n)) (le-leb (t * w + first c n) (t * w + col) (omega (arith, s.0))) ∙ le-leb (t * w + col) (t * w + last c n) (omega (arith, s.1))
        by false is = bit_no _ (λ yes.
            let a = and_parts (nat_le (t * w + first c n) (t * w + col)) (nat_le (t * w + col) (t * w + last c n)) yes in
            let from = leb-true (t * w + first c n) (t * w + col) a.0 in
            let to = leb-true (t * w + col) (t * w + last c n) a.1 in
            let s = in_span c n col (omega (arith, from)) (omega (arith, to)) in
            cc)
          where
            bit_no : (b : Bool) → (b ≡ true → ⊥) → b ≡ false
            bit_no true never = absurd (never refl)
            bit_no false never = refl

    by : (k col : ℕ) → k < count → col < w → (if nat_le (t * w + first c n) (k * w + col) && nat_le (k * w + col) (t * w + last c n) then Some n else get_or cells (k * w + col) None) ≡ running c tracks (suc n) k col
    by k col below within = elim (cases_eq k t) [
      | inl same ↦
          subst (λ j. (if nat_le (t * w + first c n) (j * w + col) && nat_le (j * w + col) (t * w + last c n) then Some n else get_or cells (j * w + col) None) ≡ running c tracks (suc n) j col) (sym same)
          (ap (λ b. if b then Some n else get_or cells (t * w + col) None) (test_same col)
          ∙ ap (λ o. if spans c n col then Some n else o) (are.1 t col (subst (λ j. j < count) same below) within)
          ∙ ap (λ b. if b && spans c n col then Some n else running c tracks n t col) (sym (eq-eqb t t refl)))
      | inr other ↦
          let apart : (t == k) ≡ false = elim (eqb_tells t k) [ inl x ↦ absurd (other (sym x.1)) | inr f ↦ f.0 ] in
          ap (λ b. if b then Some n else get_or cells (k * w + col) None) (test_no k col within other) ∙ are.1 k col below within
          ∙ sym (ap (λ b. if b && spans c n col then Some n else running c tracks n k col) apart)
    ]

-- what the lists of first and last columns say of a net
pub first_of : (c : NetList) (firsts : List ℕ) (n : ℕ) → n < length c.nets → AreFirsts c firsts (gate_count c.nets) → get_or firsts n 0 ≡ first c n
first_of c firsts n lt are = are.1 n lt (elim (source_facts c.nets n lt) [ inl z ↦ omega (arith, z) | inr h ↦ omega (arith, h.1, h.2) ])

pub last_of : (c : NetList) (lasts : List ℕ) (n : ℕ) → n < length c.nets → AreEnds c lasts (length c.outputs) → get_or lasts n 0 ≡ last c n
unfolding last
last_of c lasts n lt are = are.1 n lt

-- a column of a track is one of the cells of all tracks
pub cell_inside : (k count w col : ℕ) → k < count → col < w → k * w + col < count * w
cell_inside k count w col lt within =
    let m : (k + 1) * w ≤ count * w = mul-le-mul_right w (omega (arith, lt)) in
    let d : (k + 1) * w ≡ k * w + w = omega arith in
    omega (arith, m, d, within)

-- the last cell of a net is one of the cells of all tracks
pub end_inside : (c : NetList) (tracks : List ℕ) (count n : ℕ) → n < length c.nets → AreTracks c tracks count → track_in tracks n * col_count c.nets + last c n < count * col_count c.nets
end_inside c tracks count n lt are = let l = last_within c n in cell_inside (track_in tracks n) count (col_count c.nets) (last c n) (are.2 n lt) (omega (arith, l))

-- cells from one number to another, where the numbers are those of the net's span
pub span_laid : (c : NetList) (tracks : List ℕ) (count n from to : ℕ) (cells after : List (Option ℕ)) → n < length c.nets → AreCells c tracks count cells n → length after ≡ length cells
    → from ≡ track_in tracks n * col_count c.nets + first c n → to ≡ track_in tracks n * col_count c.nets + last c n
    → ((i : ℕ) → get_or after i None ≡ (if nat_le from i && nat_le i to then Some n else get_or cells i None)) → AreCells c tracks count after (n + 1)
span_laid c tracks count n from to cells after lt are size starts ends laid =
    net_laid c tracks count n cells after lt are size (λ i. laid i ∙ ap (λ b. if b then Some n else get_or cells i None) (ap (λ z. nat_le z i && nat_le i to) starts ∙ ap (λ z. nat_le (track_in tracks n * col_count c.nets + first c n) i && nat_le i z) ends))

-- few cells have few tracks
pub few_tracks : (count w : ℕ) → 3 ≤ w → (2 * count + 2) * w ≤ 2 ^ 20 → count < 2 ^ 19
few_tracks count w some few = let m : (2 * count + 2) * 3 ≤ (2 * count + 2) * w = mul-le-mul_left (2 * count + 2) some in omega (arith, m, few)

-- the cells before the one where a loop ends are those up to the one before it
pub same_cells : (from to cell i : ℕ) → to + 1 ≤ cell → (from ≤ to + 1 → cell ≤ to + 1) → (to + 1 < from → cell ≡ from) → (nat_le from i && nat_lt i cell) ≡ (nat_le from i && nat_le i to)
same_cells from to cell i past ends still = elim (leb_tells from i) [
  | inr f ↦ ap (λ b. b && nat_lt i cell) f.0 ∙ sym (ap (λ b. b && nat_le i to) f.0)
  | inl t ↦
      let e : nat_lt i cell ≡ nat_le i to = elim (leb_tells i to) [
        | inl u ↦ lt-ltb i cell (omega (arith, u.1, past)) ∙ sym u.0
        | inr v ↦
            let below : cell ≤ i = elim (cases_lt (to + 1) from) [ inl lt ↦ let e = still lt in omega (arith, e, t.1) | inr ge ↦ let e = ends ge in omega (arith, e, v.1) ] in
            le-ltb i cell below ∙ sym v.0
      ] in
      ap (λ b. nat_le from i && b) e
]
