-- Nets on their tracks are a placement.
use Rattle.std.proofs.Common.{◌≡◌, ℕ, zero, suc, ◌+◌, ◌*◌, ◌%◌, ◌<◌, ◌≤◌, ◌⊎◌, inl, inr, List, length, Option, Some, None, Bool, true, false, refl, sym, ap, ◌∙◌, arith, get_or, ◌==◌, if◌then◌else◌}
use Rattle.std.specs.Prelude.{nat_le, ◌&&◌, ◌||◌, IfSome}
use Rattle.std.proofs.lemmas.Bool.{cases_lt, cases_eq, and_parts, eqb-true, eq-eqb, leb-true, le-leb}
use Rattle.std.proofs.lemmas.Option.{none-some}
use Rattle.circuit_text.specs.Values.{AreNets}
use Rattle.circuit_text.specs.Circuits.{NetList}
use Rattle.gate_layout.specs.Nets.{gate_count}
use Rattle.gate_layout.specs.Placed.{IsPlaced, column_of, column_net, col_count}
use Rattle.gate_layout.proofs.LawLemmas.{column_facts, source_facts}
use Rattle.track_layout.specs.Spans.{first, last, spans, is_output, last_by}
use Rattle.track_layout.specs.Tracks.{track_in, AreTracks, running, on_tracks}
use Rattle.track_layout.proofs.Sweeps.{apart}
use Rattle.track_layout.proofs.Ended.{Alone, At, EndView, IsOutput, Within, end_view, last_least, first_last}

pub in_span : (c : NetList) (n col : ℕ) → first c n ≤ col → col ≤ last c n → spans c n col ≡ true
in_span c n col from to = ap (λ b. b && nat_le col (last c n)) (le-leb (first c n) col from) ∙ le-leb col (last c n) to

pub span_parts : (c : NetList) (n col : ℕ) → spans c n col ≡ true → (first c n ≤ col) × (col ≤ last c n)
span_parts c n col is = let a = and_parts (nat_le (first c n) col) (nat_le col (last c n)) is in (leb-true (first c n) col a.0, leb-true col (last c n) a.1)

-- the net that runs at a column is on the track and spans the column
pub run_is : (c : NetList) (tracks : List ℕ) (b k col n : ℕ) → running c tracks b k col ≡ Some n → (n < b) × (track_in tracks n ≡ k) × (spans c n col ≡ true)
run_is c tracks zero k col n is = absurd (none-some n is)
run_is c tracks (suc b) k col n is = by ((track_in tracks b == k) && spans c b col) refl is (λ q. run_is c tracks b k col n q)
  where
    by : (t : Bool) → ((track_in tracks b == k) && spans c b col) ≡ t → (if t then Some b else running c tracks b k col) ≡ Some n
        → (running c tracks b k col ≡ Some n → (n < b) × (track_in tracks n ≡ k) × (spans c n col ≡ true)) → (n < suc b) × (track_in tracks n ≡ k) × (spans c n col ≡ true)
    by true e q before =
        let same : b ≡ n = cc in
        let a = and_parts (track_in tracks b == k) (spans c b col) e in
        (omega (arith, same), ap (track_in tracks) (sym same) ∙ eqb-true (track_in tracks b) k a.0, ap (λ m. spans c m col) (sym same) ∙ a.1)
    by false e q before = let r = before q in (omega (arith, r.0), r.1, r.2)

-- nets that span one column of a track are one
same_net : (c : NetList) (tracks : List ℕ) (count m n k col : ℕ) → AreTracks c tracks count → m < length c.nets → n < length c.nets → track_in tracks m ≡ k → track_in tracks n ≡ k → spans c m col ≡ true → spans c n col ≡ true → m ≡ n
same_net c tracks count m n k col are lm ln tm tn sm sn = elim (cases_eq m n) [
  | inl e ↦ e
  | inr other ↦
      let a = span_parts c m col sm in
      let b = span_parts c n col sn in
      absurd (elim (apart c tracks m n lm ln (are.1 m lm) (are.1 n ln) other (tm ∙ sym tn)) [ inl lt ↦ omega (arith, lt, a.1, b.0) | inr lt ↦ omega (arith, lt, b.1, a.0) ])
]

run_by : (c : NetList) (tracks : List ℕ) (count b k col n : ℕ) → AreTracks c tracks count → b ≤ length c.nets → n < b → track_in tracks n ≡ k → spans c n col ≡ true → running c tracks b k col ≡ Some n
run_by c tracks count zero k col n are le lt t s = absurd (omega (arith, lt))
run_by c tracks count (suc b) k col n are le lt t s = by ((track_in tracks b == k) && spans c b col) refl (λ less. run_by c tracks count b k col n are (omega (arith, le)) less t s)
  where
    by : (q : Bool) → ((track_in tracks b == k) && spans c b col) ≡ q → (n < b → running c tracks b k col ≡ Some n) → (if q then Some b else running c tracks b k col) ≡ Some n
    by true e before =
        let a = and_parts (track_in tracks b == k) (spans c b col) e in
        ap (λ m. Some m) (same_net c tracks count b n k col are (omega (arith, le)) (omega (arith, le, lt)) (eqb-true (track_in tracks b) k a.0) t a.1 s)
    by false e before = elim (cases_eq n b) [
      | inl same ↦ absurd (let u : ((track_in tracks b == k) && spans c b col) ≡ true = ap (λ z. z && spans c b col) (eq-eqb (track_in tracks b) k (ap (track_in tracks) (sym same) ∙ t)) ∙ ap (λ m. spans c m col) (sym same) ∙ s in cc)
      | inr other ↦ before (omega (arith, lt, other))
    ]

pub run_at : (c : NetList) (tracks : List ℕ) (count k col n : ℕ) → AreTracks c tracks count → n < length c.nets → track_in tracks n ≡ k → first c n ≤ col → col ≤ last c n → running c tracks (length c.nets) k col ≡ Some n
run_at c tracks count k col n are lt t from to = run_by c tracks count (length c.nets) k col n are (omega arith) lt t (in_span c n col from to)

-- no net runs where none spans the column
run_none : (c : NetList) (tracks : List ℕ) (k col : ℕ) → ((m : ℕ) → m < length c.nets → track_in tracks m ≡ k → spans c m col ≡ true → ⊥) → running c tracks (length c.nets) k col ≡ None
run_none c tracks k col nothing = by (running c tracks (length c.nets) k col) refl
  where
    by : (o : Option ℕ) → running c tracks (length c.nets) k col ≡ o → o ≡ None
    by None e = refl
    by (Some m) e = absurd (let r = run_is c tracks (length c.nets) k col m e in nothing m r.0 r.1 r.2)

-- a column has no net where its number is even
even_none : (c : NetList) (col : ℕ) → AreNets c.nets → col % 2 ≡ 0 → column_net c.nets (column_of (gate_count c.nets) col) ≡ None
even_none c col are even = by (column_net c.nets (column_of (gate_count c.nets) col)) refl
  where
    by : (o : Option ℕ) → column_net c.nets (column_of (gate_count c.nets) col) ≡ o → o ≡ None
    by None e = refl
    by (Some t) e = absurd (elim (column_facts c.nets col t are e).at [ inl a ↦ omega (arith, a, even) | inr r ↦ elim r [ inl a ↦ omega (arith, a, even) | inr a ↦ omega (arith, a.0, even) ] ])

odd_view : (c : NetList) (n l col : ℕ) → AreNets c.nets → EndView c n l → l ≡ col → col < 6 * gate_count c.nets + 2 → col % 2 ≡ 1
odd_view c n _ col are (IsOutput is) e lt = absurd (omega (arith, e, lt))
odd_view c n _ col are (Within _ Alone) e lt = omega (arith, e)
odd_view c n _ col are (Within _ (At at one le is)) e lt = elim (column_facts c.nets at n are is).at [ inl a ↦ omega (arith, a, e) | inr r ↦ elim r [ inl a ↦ omega (arith, a, e) | inr a ↦ omega (arith, a.0, e) ] ]

odd_last : (c : NetList) (n col : ℕ) → AreNets c.nets → last c n ≡ col → col < 6 * gate_count c.nets + 2 → col % 2 ≡ 1
odd_last c n col are e lt = odd_view c n (last c n) col are (end_view c n) e lt

odd_first : (c : NetList) (n col : ℕ) → n < length c.nets → first c n ≡ col + 1 → col % 2 ≡ 0
odd_first c n col lt e = elim (source_facts c.nets n lt) [ inl z ↦ absurd (omega (arith, z, e)) | inr g ↦ omega (arith, e, g.2) ]

-- an output runs to the last column
named_output : (outputs : List ℕ) (i b : ℕ) → i < b → is_output outputs b (get_or outputs i 0) ≡ true
named_output outputs i zero lt = absurd (omega (arith, lt))
named_output outputs i (suc b) lt = elim (cases_eq i b) [
  | inl same ↦ ap (λ z. z || is_output outputs b (get_or outputs i 0)) (eq-eqb (get_or outputs b 0) (get_or outputs i 0) (ap (λ j. get_or outputs j 0) (sym same)))
  | inr other ↦ either (get_or outputs b 0 == get_or outputs i 0) (named_output outputs i b (omega (arith, lt, other)))
]
  where
    either : (x : Bool) {y : Bool} → y ≡ true → (x || y) ≡ true
    either true e = refl
    either false e = e

output_last : (c : NetList) (i : ℕ) → i < length c.outputs → last c (get_or c.outputs i 0) ≡ 6 * gate_count c.nets + 2
unfolding last
output_last c i lt = ap (λ b. if b then 6 * gate_count c.nets + 2 else last_by c.nets (6 * gate_count c.nets) (get_or c.outputs i 0)) (named_output c.outputs i (length c.outputs) lt)

ends_east : (c : NetList) (tracks : List ℕ) (count : ℕ) → AreNets c.nets → AreTracks c tracks count → (k col n : ℕ) → col + 1 < col_count c.nets → running c tracks (length c.nets) k col ≡ Some n
    → (running c tracks (length c.nets) k (col + 1) ≡ Some n) ⊎ ((running c tracks (length c.nets) k (col + 1) ≡ None) × (column_net c.nets (column_of (gate_count c.nets) (col + 1)) ≡ None))
ends_east c tracks count nets are k col n within is =
    let r = run_is c tracks (length c.nets) k col n is in
    let s = span_parts c n col r.2 in
    elim (cases_lt col (last c n)) [
      | inl lt ↦ inl (run_at c tracks count k (col + 1) n are r.0 r.1 (omega (arith, s.0)) (omega (arith, lt)))
      | inr le ↦
          let odd = odd_last c n col nets (omega (arith, le, s.1)) (omega (arith, within)) in
          inr (
            run_none c tracks k (col + 1) (λ m below t sp.
                let q = span_parts c m (col + 1) sp in
                let other : m ≡ n → ⊥ = λ e. let z : last c m ≡ last c n = ap (last c) e in omega (arith, z, q.1, le) in
                elim (apart c tracks m n below r.0 (are.1 m below) (are.1 n r.0) other (t ∙ sym r.1)) [
                  | inl lt ↦ omega (arith, lt, q.1, s.0)
                  | inr lt ↦ let even = odd_first c m col below (omega (arith, lt, le, s.1, q.0)) in omega (arith, even, odd)
                ]),
            even_none c (col + 1) nets (omega (arith, odd)),
          )
    ]

ends_west : (c : NetList) (tracks : List ℕ) (count : ℕ) → AreNets c.nets → AreTracks c tracks count → (k col n : ℕ) → col + 1 < col_count c.nets → running c tracks (length c.nets) k (col + 1) ≡ Some n
    → (running c tracks (length c.nets) k col ≡ Some n) ⊎ ((running c tracks (length c.nets) k col ≡ None) × (column_net c.nets (column_of (gate_count c.nets) col) ≡ None))
ends_west c tracks count nets are k col n within is =
    let r = run_is c tracks (length c.nets) k (col + 1) n is in
    let s = span_parts c n (col + 1) r.2 in
    elim (cases_lt col (first c n)) [
      | inr le ↦ inl (run_at c tracks count k col n are r.0 r.1 le (omega (arith, s.1)))
      | inl lt ↦
          let even = odd_first c n col r.0 (omega (arith, lt, s.0)) in
          inr (
            run_none c tracks k col (λ m below t sp.
                let q = span_parts c m col sp in
                let other : m ≡ n → ⊥ = λ e. let z : first c m ≡ first c n = ap (first c) e in omega (arith, z, q.0, lt) in
                elim (apart c tracks m n below r.0 (are.1 m below) (are.1 n r.0) other (t ∙ sym r.1)) [
                  | inl less ↦ let odd = odd_last c m col nets (omega (arith, less, s.0, q.1)) (omega (arith, within)) in omega (arith, even, odd)
                  | inr less ↦ omega (arith, less, q.0, s.1)
                ]),
            even_none c col nets even,
          )
    ]

pub tracks_placed : (c : NetList) (tracks : List ℕ) (count : ℕ) → AreNets c.nets → ((i : ℕ) → i < length c.outputs → get_or c.outputs i 0 < length c.nets) → AreTracks c tracks count → IsPlaced c (on_tracks c tracks count)
tracks_placed c tracks count nets outs are = record {
  on = λ n lt. are.2 n lt;
  named = λ k col n below is. let r = run_is c tracks (length c.nets) k col n is in (r.0, r.1);
  sources = λ n lt. run_at c tracks count (track_in tracks n) (first c n) n are lt refl (omega arith) (first_last c n nets lt);
  columns = λ n col is. let f = column_facts c.nets col n nets is in run_at c tracks count (track_in tracks n) col n are f.net refl f.begun (last_least c n col nets is);
  outputs = λ i lt.
      let e = output_last c i lt in
      run_at c tracks count (track_in tracks (get_or c.outputs i 0)) (6 * gate_count c.nets + 2) (get_or c.outputs i 0) are (outs i lt) refl (let f = first_last c (get_or c.outputs i 0) nets (outs i lt) in omega (arith, e, f)) (omega (arith, e));
  to_east = λ k col n below lt is. absurd (let s = span_parts c n col (run_is c tracks (length c.nets) k col n is).2 in omega (arith, s.0, lt));
  to_west = λ k col n below le is.
      let r = run_is c tracks (length c.nets) k (col + 1) n is in
      let s = span_parts c n (col + 1) r.2 in
      run_at c tracks count k col n are r.0 r.1 le (omega (arith, s.1));
  ends_east = λ k col n below within is. ends_east c tracks count nets are k col n within is;
  ends_west = λ k col n below within is. ends_west c tracks count nets are k col n within is;
}

-- the net that runs is one of the circuit
pub run_within : (c : NetList) (tracks : List ℕ) (b k col : ℕ) (o : Option ℕ) → o ≡ running c tracks b k col → IfSome o (λ n. n < b)
run_within c tracks b k col None is = tt
run_within c tracks b k col (Some n) is = (run_is c tracks b k col n (sym is)).0
