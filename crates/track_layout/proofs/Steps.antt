-- One step of the sweep.
use Rattle.std.proofs.Common.{◌≡◌, ℕ, zero, suc, ◌+◌, ◌*◌, ◌%◌, ◌<◌, ◌≤◌, ◌⊎◌, inl, inr, List, [], ◌∷◌, length, Some, None, Bool, true, false, refl, sym, ap, ◌∙◌, subst, arith, get_or, ◌==◌}
use Rattle.std.specs.Prelude.{slice_set, nat_lt, ◌||◌}
use Rattle.std.proofs.lemmas.Bool.{cases_lt, cases_eq, lt-ltb, ltb-true, eq-eqb}
use Rattle.std.proofs.lemmas.Bool.Decides.{leb_tells}
use Rattle.std.specs.List.{list_any}
use Rattle.std.proofs.lemmas.Option.{none-some}
use Rattle.circuit_text.specs.Values.{AreNets}
use Rattle.circuit_text.specs.Circuits.{NetList}
use Rattle.gate_layout.specs.Nets.{gate_count}
use Rattle.gate_layout.specs.Placed.{column_of, column_net}
use Rattle.gate_layout.proofs.LawLemmas.{column_facts, source_facts}
use Rattle.track_layout.specs.Spans.{first, last, one_if}
use Rattle.track_layout.specs.Tracks.{track_in, AreTracks}
use Rattle.track_layout.specs.Free.{Gives}
use Rattle.track_layout.specs.Sweep.{IsSwept, IsNext, IsInputBy, BeginsBy, seen}
use Rattle.track_layout.proofs.Sweeps.{keep, release, place, apart}
use Rattle.track_layout.proofs.Ended.{last_positive, first_last, ends_at, begins_at, rise_begins}

-- no net begins at a column that is no rise
pub no_rise : (c : NetList) (tracks : List ℕ) (count col : ℕ) (free : ℕ → Bool) → (col % 6 ≡ 4 → ⊥) → IsSwept c tracks count free (BeginsBy c col) (λ n. col) → IsSwept c tracks count free (BeginsBy c (col + 1)) (λ n. col)
no_rise c tracks count col free other s =
    keep c tracks count free (BeginsBy c col) (BeginsBy c (col + 1)) (λ n. col) (λ n. col) s (λ n p. (p.0, omega (arith, p.1)))
    (λ n q. (q.0, elim (cases_lt col (first c n)) [ inl lt ↦ absurd (other (begins_at c n col q.0 (omega (arith, lt, q.1))).1) | inr le ↦ le ])) (λ n p e. e) (λ n p e. e)

-- no net begins or ends at a column without one
pub no_net : (c : NetList) (tracks : List ℕ) (count col : ℕ) (free : ℕ → Bool) → 1 ≤ col → col + 1 ≤ 6 * gate_count c.nets → column_net c.nets (column_of (gate_count c.nets) (col + 1)) ≡ None
    → IsSwept c tracks count free (BeginsBy c col) (λ n. col) → IsSwept c tracks count free (BeginsBy c (col + 1)) (λ n. col + 1)
no_net c tracks count col free one within none s =
    keep c tracks count free (BeginsBy c col) (BeginsBy c (col + 1)) (λ n. col) (λ n. col + 1) s (λ n p. (p.0, omega (arith, p.1)))
    (λ n q. (q.0, elim (cases_lt col (first c n)) [ inl lt ↦ absurd (gone n (begins_at c n col q.0 (omega (arith, lt, q.1))).0) | inr le ↦ le ])) (λ n p e. omega (arith, e))
    (λ n p e. elim (cases_lt col (last c n)) [ inl lt ↦ absurd (gone n (ends_at c n col (omega (arith, lt, e)) one (omega (arith, within)))) | inr le ↦ le ])
  where
    gone : (n : ℕ) → column_net c.nets (column_of (gate_count c.nets) (suc col)) ≡ Some n → ⊥
    gone n is = let e : col + 1 ≡ suc col = omega arith in none-some n (sym none ∙ ap (λ z. column_net c.nets (column_of (gate_count c.nets) z)) e ∙ is)

-- the net of a rise begins there
pub rise : (c : NetList) (tracks : List ℕ) (count more col n k : ℕ) (free after : ℕ → Bool) → AreNets c.nets → column_net c.nets (column_of (gate_count c.nets) (col + 1)) ≡ Some n → col % 6 ≡ 4
    → IsSwept c tracks count free (BeginsBy c col) (λ n. col) → IsNext free after count more k → IsSwept c (slice_set tracks n k) more after (BeginsBy c (col + 1)) (λ n. col)
rise c tracks count more col n k free after are is r s next =
    let e : col + 1 ≡ suc col = omega arith in
    let own : column_net c.nets (column_of (gate_count c.nets) (suc col)) ≡ Some n = subst (λ z. column_net c.nets (column_of (gate_count c.nets) z) ≡ Some n) e is in
    let at : first c n ≡ suc col = rise_begins c n col are own r in
    let lt : n < length c.nets = (column_facts c.nets (suc col) n are own).net in
    let ends = first_last c n are lt in
    keep c (slice_set tracks n k) more after (λ m. BeginsBy c col m ⊎ (m ≡ n)) (BeginsBy c (col + 1)) (λ n. col) (λ n. col)
    (place c tracks count more k n free after (BeginsBy c col) (λ n. col) s lt (λ m p. (p.0, inl (omega (arith, p.1, at)))) (λ m below b. (
      below,
      elim b [
        | inl less ↦ omega (arith, less, at)
        | inr same ↦ absurd (let q = begins_at c m col below (omega (arith, same.0, at)) in let z : Some m ≡ Some n = sym q.0 ∙ own in let y : m ≡ n = cc in omega (arith, y, same.1))
      ],
    )) (λ m p less. omega (arith, less, at)) (λ m p le. omega (arith, le, at)) (omega (arith, ends, at)) next)
    (λ m p. elim p [ inl old ↦ (old.0, omega (arith, old.1)) | inr same ↦ (subst (λ z. z < length c.nets) (sym same) lt, subst (λ z. first c z ≤ col + 1) (sym same) (omega (arith, at))) ])
    (λ m q. elim (cases_lt col (first c m)) [
      | inl less ↦ inr (let b = begins_at c m col q.0 (omega (arith, less, q.1)) in let z : Some m ≡ Some n = sym b.0 ∙ own in cc)
      | inr le ↦ inl (q.0, le)
    ]) (λ m p e. e) (λ m p e. e)

-- the net of a column doesn't end there
pub goes_on : (c : NetList) (tracks : List ℕ) (count col n : ℕ) (free : ℕ → Bool) → 1 ≤ col → col + 1 ≤ 6 * gate_count c.nets → column_net c.nets (column_of (gate_count c.nets) (col + 1)) ≡ Some n → (last c n ≡ col + 1 → ⊥)
    → IsSwept c tracks count free (BeginsBy c (col + 1)) (λ n. col) → IsSwept c tracks count free (BeginsBy c (col + 1)) (λ n. col + 1)
goes_on c tracks count col n free one within is other s =
    keep c tracks count free (BeginsBy c (col + 1)) (BeginsBy c (col + 1)) (λ n. col) (λ n. col + 1) s (λ m p. p) (λ m p. p) (λ m p e. omega (arith, e))
    (λ m p e. elim (cases_lt col (last c m)) [ inl lt ↦ absurd (other (subst (λ z. last c z ≡ col + 1) (same_net c col n m one within is (omega (arith, lt, e))) (omega (arith, lt, e)))) | inr le ↦ le ])
  where
    same_net : (c : NetList) (col n m : ℕ) → 1 ≤ col → col + 1 ≤ 6 * gate_count c.nets → column_net c.nets (column_of (gate_count c.nets) (col + 1)) ≡ Some n → last c m ≡ col + 1 → m ≡ n
    same_net c col n m one within is l =
        let e : col + 1 ≡ suc col = omega arith in
        let q = ends_at c m col (omega (arith, l)) one (omega (arith, within)) in
        let z : Some m ≡ Some n = sym q ∙ ap (λ z. column_net c.nets (column_of (gate_count c.nets) z)) (sym e) ∙ is in
        cc

-- and where it does, its track is free
pub goes : (c : NetList) (tracks : List ℕ) (count col n : ℕ) (free after : ℕ → Bool) → AreNets c.nets → 1 ≤ col → col + 1 ≤ 6 * gate_count c.nets → column_net c.nets (column_of (gate_count c.nets) (col + 1)) ≡ Some n → last c n ≡ col + 1
    → IsSwept c tracks count free (BeginsBy c (col + 1)) (λ n. col) → Gives free after (track_in tracks n) → IsSwept c tracks count after (BeginsBy c (col + 1)) (λ n. col + 1)
goes c tracks count col n free after are one within is ends s gives =
    release c tracks count free after (BeginsBy c (col + 1)) (λ n. col) (λ n. col + 1) n s mine (omega (arith, ends))
    (λ i p other e. omega (arith, e))
    (λ i p other e. elim (cases_lt col (last c i)) [ inl lt ↦ absurd (other (same i (omega (arith, lt, e)))) | inr le ↦ le ])
    (λ i p other t. elim (apart c tracks i n p.0 mine.0 (s.each i p) (s.each n mine) other t) [
      | inl lt ↦ omega (arith, lt, mine.1)
      | inr lt ↦ absurd (omega (arith, lt, ends, p.1))
    ]) gives
  where
    e : col + 1 ≡ suc col
    e = omega arith

    mine : BeginsBy c (col + 1) n
    mine = let f = column_facts c.nets (col + 1) n are is in (f.net, f.begun)

    same : (i : ℕ) → last c i ≡ col + 1 → i ≡ n
    same i l =
        let q = ends_at c i col (omega (arith, l)) one (omega (arith, within)) in
        let z : Some i ≡ Some n = sym q ∙ ap (λ z. column_net c.nets (column_of (gate_count c.nets) z)) (sym e) ∙ is in
        cc

-- before the track of a net is given back it isn't free
pub not_free : (c : NetList) (tracks : List ℕ) (count : ℕ) (free : ℕ → Bool) (P : ℕ → Type 0) (l : ℕ → ℕ) (n : ℕ) → IsSwept c tracks count free P l → P n → l n < last c n → free (track_in tracks n) ≡ false
not_free c tracks count free P l n s is lt = by (free (track_in tracks n)) refl
  where
    by : (b : Bool) → free (track_in tracks n) ≡ b → b ≡ false
    by false e = refl
    by true e = absurd (let z = (s.ended (track_in tracks n) e).1 n is refl in omega (arith, z, lt))

-- Inputs

-- nothing is taken at first
pub none_yet : (c : NetList) (tracks : List ℕ) (free : ℕ → Bool) → length tracks ≡ length c.nets → ((k : ℕ) → free k ≡ false) → IsSwept c tracks 0 free (IsInputBy c 0) (λ n. 0)
none_yet c tracks free size none = record {
  size = size;
  each = λ n p. absurd (omega (arith, p.2));
  below = λ n p. absurd (omega (arith, p.2));
  ended = λ k f. absurd (let e = none k in cc);
  busy = λ k lt f. absurd (omega (arith, lt));
  used = λ k lt. absurd (omega (arith, lt));
}

-- an input gets a new track
pub input : (c : NetList) (tracks : List ℕ) (count n : ℕ) (free : ℕ → Bool) → n < length c.nets → first c n ≡ 0 → ((k : ℕ) → free k ≡ false)
    → IsSwept c tracks count free (IsInputBy c n) (λ n. 0) → IsSwept c (slice_set tracks n count) (count + 1) free (IsInputBy c (n + 1)) (λ n. 0)
input c tracks count n free lt zero_first none s =
    keep c (slice_set tracks n count) (count + 1) free (λ m. IsInputBy c n m ⊎ (m ≡ n)) (IsInputBy c (n + 1)) (λ n. 0) (λ n. 0)
    (place c tracks count (count + 1) count n free free (IsInputBy c n) (λ n. 0) s lt
    (λ m p. (p.0, inr (omega (arith, p.1, zero_first), p.2)))
    (λ m below b. elim b [ inl less ↦ absurd (omega (arith, less, zero_first)) | inr same ↦ (below, omega (arith, same.0, zero_first), same.1) ])
    (λ m p less. absurd (omega (arith, less, zero_first))) (λ m p le. absurd (let z = last_positive c m in omega (arith, le, z))) (let z = last_positive c n in omega (arith, z))
    (record { own = inr refl; lower = λ j low. (low, none j); gone = none count; others = λ j other. refl; grows = omega arith; within = omega arith; only = λ j less. elim (cases_lt j count) [ inl low ↦ inl low | inr ge ↦ inr (omega (arith, less, ge)) ] }))
    (λ m p. elim p [ inl old ↦ (old.0, old.1, omega (arith, old.2)) | inr same ↦ (subst (λ z. z < length c.nets) (sym same) lt, ap (first c) same ∙ zero_first, omega (arith, same)) ])
    (λ m q. elim (cases_eq m n) [ inl same ↦ inr same | inr other ↦ inl (q.0, q.1, omega (arith, q.2, other)) ]) (λ m p e. e) (λ m p e. e)

pub no_input : (c : NetList) (tracks : List ℕ) (count n : ℕ) (free : ℕ → Bool) → (first c n ≡ 0 → ⊥)
    → IsSwept c tracks count free (IsInputBy c n) (λ n. 0) → IsSwept c tracks count free (IsInputBy c (n + 1)) (λ n. 0)
no_input c tracks count n free other s =
    keep c tracks count free (IsInputBy c n) (IsInputBy c (n + 1)) (λ n. 0) (λ n. 0) s (λ m p. (p.0, p.1, omega (arith, p.2)))
    (λ m q. (q.0, q.1, elim (cases_eq m n) [ inl same ↦ absurd (other (ap (first c) (sym same) ∙ q.1)) | inr less ↦ omega (arith, q.2, less) ])) (λ m p e. e) (λ m p e. e)

-- where an input ends at column 1, its track is free
not_lt : (a b : ℕ) → b ≤ a → nat_lt a b ≡ false
not_lt a b le = elim (leb_tells (suc a) b) [ inl t ↦ absurd (omega (arith, t.1, le)) | inr f ↦ f.0 ]

seen_other : (n i : ℕ) → (i ≡ n → ⊥) → seen (n + 1) i ≡ seen n i
seen_other n i other = elim (cases_lt i n) [
  | inl lt ↦ ap one_if (lt-ltb i (n + 1) (omega (arith, lt)) ∙ sym (lt-ltb i n lt))
  | inr ge ↦ ap one_if (not_lt i (n + 1) (omega (arith, ge, other)) ∙ sym (not_lt i n ge))
]

seen_own : (n : ℕ) → seen (n + 1) n ≡ 1
seen_own n = ap one_if (lt-ltb n (n + 1) (omega arith))

pub unseen : (n : ℕ) → seen n n ≡ 0
unseen n = by (nat_lt n n) refl
  where
    by : (b : Bool) → nat_lt n n ≡ b → one_if b ≡ 0
    by false e = refl
    by true e = absurd (let l = ltb-true n n e in omega (arith, l))

pub looked_end : (c : NetList) (tracks : List ℕ) (count n : ℕ) (free after : ℕ → Bool) → n < length c.nets → first c n ≡ 0 → last c n ≡ 1
    → IsSwept c tracks count free (IsInputBy c (length c.nets)) (seen n) → Gives free after (track_in tracks n) → IsSwept c tracks count after (IsInputBy c (length c.nets)) (seen (n + 1))
looked_end c tracks count n free after lt zero_first ends s gives =
    release c tracks count free after (IsInputBy c (length c.nets)) (seen n) (seen (n + 1)) n s (lt, zero_first, lt) (omega (arith, ends, seen_own n))
    (λ i p other e. omega (arith, e, seen_other n i other)) (λ i p other e. omega (arith, e, seen_other n i other))
    (λ i p other t. elim (apart c tracks i n p.0 lt (s.each i p) (s.each n (lt, zero_first, lt)) other t) [
      | inl less ↦ absurd (omega (arith, less, zero_first))
      | inr less ↦ absurd (omega (arith, less, p.1))
    ]) gives

pub looked_on : (c : NetList) (tracks : List ℕ) (count n : ℕ) (free : ℕ → Bool) → (first c n ≡ 0 → last c n ≡ 1 → ⊥)
    → IsSwept c tracks count free (IsInputBy c (length c.nets)) (seen n) → IsSwept c tracks count free (IsInputBy c (length c.nets)) (seen (n + 1))
looked_on c tracks count n free other s =
    keep c tracks count free (IsInputBy c (length c.nets)) (IsInputBy c (length c.nets)) (seen n) (seen (n + 1)) s (λ i p. p) (λ i p. p)
    (λ i p e. elim (cases_eq i n) [ inl same ↦ absurd (let z = last_positive c i in let u : seen n i ≡ 0 = ap (seen n) same ∙ unseen n in omega (arith, e, z, u)) | inr more ↦ omega (arith, e, seen_other n i more) ])
    (λ i p e. elim (cases_eq i n) [
      | inl same ↦ absurd (other (ap (first c) (sym same) ∙ p.1) (let z = last_positive c i in let u : seen (n + 1) i ≡ 1 = ap (seen (n + 1)) same ∙ seen_own n in ap (last c) (sym same) ∙ omega (arith, e, z, u)))
      | inr more ↦ omega (arith, e, seen_other n i more)
    ])

pub unlooked : (c : NetList) (tracks : List ℕ) (count : ℕ) (free : ℕ → Bool) → IsSwept c tracks count free (IsInputBy c (length c.nets)) (λ n. 0) → IsSwept c tracks count free (IsInputBy c (length c.nets)) (seen 0)
unlooked c tracks count free s = keep c tracks count free (IsInputBy c (length c.nets)) (IsInputBy c (length c.nets)) (λ n. 0) (seen 0) s (λ i p. p) (λ i p. p) (λ i p e. omega (arith, e)) (λ i p e. let z : seen 0 i ≡ 0 = ap one_if (not_lt i 0 (omega arith)) in omega (arith, e, z))

pub looked_all : (c : NetList) (tracks : List ℕ) (count : ℕ) (free : ℕ → Bool) → IsSwept c tracks count free (IsInputBy c (length c.nets)) (seen (length c.nets)) → IsSwept c tracks count free (BeginsBy c 1) (λ n. 1)
looked_all c tracks count free s =
    keep c tracks count free (IsInputBy c (length c.nets)) (BeginsBy c 1) (seen (length c.nets)) (λ n. 1) s (λ n p. (p.0, omega (arith, p.1)))
    (λ n q. (q.0, elim (source_facts c.nets n q.0) [ inl z ↦ z | inr g ↦ absurd (let l = q.1 in omega (arith, l, g.2)) ], q.0))
    (λ n p e. omega (arith, e, all n p.0)) (λ n p e. omega (arith, e, all n p.0))
  where
    all : (n : ℕ) → n < length c.nets → seen (length c.nets) n ≡ 1
    all n lt = ap one_if (lt-ltb n (length c.nets) lt)

-- in the end all nets have their tracks
has_one : (tracks : List ℕ) (n k : ℕ) → n < length tracks → get_or tracks n 0 ≡ k → list_any (λ t. t == k) tracks ≡ true
has_one [] n k lt is = absurd (omega (arith, lt))
has_one (t ∷ tracks) zero k lt is = ap (λ b. b || list_any (λ t. t == k) tracks) (eq-eqb t k is)
has_one (t ∷ tracks) (suc n) k lt is = either (t == k) (has_one tracks n k (omega (arith, lt)) is)
  where
    either : (b : Bool) {d : Bool} → d ≡ true → (b || d) ≡ true
    either true e = refl
    either false e = e

pub all_taken : (c : NetList) (tracks : List ℕ) (count col : ℕ) (free : ℕ → Bool) (l : ℕ → ℕ) → 6 * gate_count c.nets ≤ col → IsSwept c tracks count free (BeginsBy c col) l → AreTracks c tracks count
all_taken c tracks count col free l all s = (
  s.size,
  λ n lt. s.each n (begun n lt),
  λ n lt. s.below n (begun n lt),
  λ k lt. let u = s.used k lt in has_one tracks u.0 k (omega (arith, u.1.0, s.size)) u.2,
)
  where
    begun : (n : ℕ) → n < length c.nets → BeginsBy c col n
    begun n lt = (lt, elim (source_facts c.nets n lt) [ inl z ↦ omega (arith, z) | inr g ↦ omega (arith, g.1, g.2, all) ])
