-- Each circuit has its tracks: those that its nets get in their turns.
use Rattle.std.proofs.Common.{◌≡◌, ℕ, zero, suc, ◌+◌, ◌*◌, ◌<◌, ◌≤◌, ◌⊎◌, inl, inr, List, length, Bool, true, false, refl, sym, ap, ◌∙◌, subst, arith, ◌==◌, if◌then◌else◌}
use Rattle.std.specs.Prelude.{slice_set, nat_lt, nat_le, ◌&&◌, not, replicate}
use Rattle.std.proofs.lemmas.Bool.{cases_lt, cases_eq, eqb-true, eq-eqb, and_parts, and_from, or_parts, or_cases, or_left, or_right, leb-true, le-leb, lt-ltb, ltb-true}
use Rattle.std.proofs.lemmas.Bool.Decides.{leb_tells, eqb_tells}
use Rattle.std.proofs.lemmas.List.{length-replicate}
use Rattle.circuit_text.specs.Values.{AreNets}
use Rattle.circuit_text.specs.Circuits.{NetList}
use Rattle.gate_layout.specs.Nets.{gate_count, net_of}
use Rattle.gate_layout.proofs.LawLemmas.{source_facts, gate_facts, net_facts}
use Rattle.track_layout.specs.Spans.{first, last}
use Rattle.gate_layout.specs.Placed.{col_count}
use Rattle.track_layout.specs.Tracks.{IsBefore, track_in, AreTracks, TracksView, site_count}
use Rattle.track_layout.specs.Sweep.{IsSwept, IsNext, IsInputBy, BeginsBy}
use Rattle.track_layout.specs.Turns.{is_before, is_taken, least_free, take_turn, after_inputs, after_gates, tracks_of}
use Rattle.track_layout.proofs.Sweeps.{keep, place}
use Rattle.track_layout.proofs.Ended.{last_positive, first_last}
use Rattle.track_layout.proofs.Steps.{none_yet, no_input, all_taken}
use Rattle.track_layout.proofs.Unique.{one_list}

bit_absurd : (b : Bool) → b ≡ true → b ≡ false → ⊥
bit_absurd true t f = cc
bit_absurd false t f = cc

-- tests and what they tell

before_is : (c : NetList) (m n : ℕ) → is_before c m n ≡ true → IsBefore c m n
before_is c m n is = elim (or_cases (nat_lt (first c m) (first c n)) ((first c m == first c n) && nat_lt m n) is) [
  | inl lt ↦ inl (ltb-true (first c m) (first c n) lt)
  | inr both ↦ let p = and_parts (first c m == first c n) (nat_lt m n) both in inr (eqb-true (first c m) (first c n) p.0, ltb-true m n p.1)
]

is_before_true : (c : NetList) (m n : ℕ) → IsBefore c m n → is_before c m n ≡ true
is_before_true c m n b = elim b [
  | inl lt ↦ or_left (nat_lt (first c m) (first c n)) ((first c m == first c n) && nat_lt m n) (lt-ltb (first c m) (first c n) lt)
  | inr s ↦ or_right (nat_lt (first c m) (first c n)) ((first c m == first c n) && nat_lt m n) (and_from (first c m == first c n) (nat_lt m n) (eq-eqb (first c m) (first c n) s.0) (lt-ltb m n s.1))
]

abbrev in_the_way : NetList → List ℕ → ℕ → ℕ → ℕ → Bool
in_the_way c tracks n k m = is_before c m n && (track_in tracks m == k) && nat_le (first c n) (last c m)

taken_by : (c : NetList) (tracks : List ℕ) (n k b : ℕ) → is_taken c tracks n k b ≡ true → (m : ℕ) × (m < b) × IsBefore c m n × (track_in tracks m ≡ k) × (first c n ≤ last c m)
taken_by c tracks n k zero is = absurd cc
taken_by c tracks n k (suc b) is = elim (or_cases (in_the_way c tracks n k b) (is_taken c tracks n k b) is) [
  | inl here ↦
      let p = and_parts (is_before c b n && (track_in tracks b == k)) (nat_le (first c n) (last c b)) here in
      let q = and_parts (is_before c b n) (track_in tracks b == k) p.0 in
      (b, omega arith, before_is c b n q.0, eqb-true (track_in tracks b) k q.1, leb-true (first c n) (last c b) p.1)
  | inr there ↦ let r = taken_by c tracks n k b there in (r.0, omega (arith, r.1), r.2, r.3, r.4)
]

not_in_the_way : (c : NetList) (tracks : List ℕ) (n k m : ℕ) → in_the_way c tracks n k m ≡ false → IsBefore c m n → track_in tracks m ≡ k → last c m < first c n
not_in_the_way c tracks n k m f before on = elim (cases_lt (last c m) (first c n)) [
  | inl less ↦ less
  | inr more ↦ absurd (bit_absurd (in_the_way c tracks n k m)
      (and_from (is_before c m n && (track_in tracks m == k)) (nat_le (first c n) (last c m))
      (and_from (is_before c m n) (track_in tracks m == k) (is_before_true c m n before) (eq-eqb (track_in tracks m) k on)) (le-leb (first c n) (last c m) more)) f)
]

taken_not : (c : NetList) (tracks : List ℕ) (n k b : ℕ) → is_taken c tracks n k b ≡ false → (m : ℕ) → m < b → IsBefore c m n → track_in tracks m ≡ k → last c m < first c n
taken_not c tracks n k zero is m lt before on = absurd (omega (arith, lt))
taken_not c tracks n k (suc b) is m lt before on =
    let parts = or_parts (in_the_way c tracks n k b) (is_taken c tracks n k b) is in
    elim (cases_eq m b) [
      | inl same ↦ not_in_the_way c tracks n k m (subst (λ j. in_the_way c tracks n k j ≡ false) (sym same) parts.0) before on
      | inr other ↦ taken_not c tracks n k b parts.1 m (omega (arith, lt, other)) before on
    ]

-- the least track that is not taken
record IsLeast (c : NetList) (tracks : List ℕ) (n more k l : ℕ) : Type 0 where
  pub from : k ≤ l
  pub to : l ≤ k + more
  pub lower : (i : ℕ) → k ≤ i → i < l → is_taken c tracks n i (length c.nets) ≡ true
  pub own : l < k + more → is_taken c tracks n l (length c.nets) ≡ false

least_is : (c : NetList) (tracks : List ℕ) (n more k : ℕ) → IsLeast c tracks n more k (least_free c tracks n more k)
least_is c tracks n zero k = record { from = omega arith; to = omega arith; lower = λ i a b. absurd (omega (arith, a, b)); own = λ lt. absurd (omega (arith, lt)) }
least_is c tracks n (suc more) k = by (is_taken c tracks n k (length c.nets)) refl (least_is c tracks n more (suc k))
  where
    by : (b : Bool) → is_taken c tracks n k (length c.nets) ≡ b → IsLeast c tracks n more (suc k) (least_free c tracks n more (suc k)) → IsLeast c tracks n (suc more) k (if b then least_free c tracks n more (suc k) else k)
    by true e r = record {
      from = omega (arith, r.from);
      to = omega (arith, r.to);
      lower = λ i a b. elim (cases_eq i k) [ inl same ↦ subst (λ j. is_taken c tracks n j (length c.nets) ≡ true) (sym same) e | inr other ↦ r.lower i (omega (arith, a, other)) b ];
      own = λ lt. r.own (omega (arith, lt));
    }
    by false e r = record { from = omega arith; to = omega arith; lower = λ i a b. absurd (omega (arith, a, b)); own = λ lt. e }

-- a column before the first
abbrev ahead : ℕ → ℕ
ahead zero = 0
ahead (suc f) = f

ahead_of : (f x : ℕ) → x < f → x ≤ ahead f
ahead_of zero x lt = absurd (omega (arith, lt))
ahead_of (suc f) x lt = omega (arith, lt)

ahead_from : (f x : ℕ) → 1 ≤ x → x ≤ ahead f → x < f
ahead_from zero x one le = absurd (let l : x ≤ 0 = le in omega (arith, one, l))
ahead_from (suc f) x one le = let l : x ≤ f = le in omega (arith, l)

ahead_less : (f x : ℕ) → 1 ≤ x → f ≤ x → ahead f < x
ahead_less zero x one le = let l : 0 < x = omega (arith, one) in l
ahead_less (suc f) x one le = let l : f < x = omega (arith, le) in l

-- these nets have their tracks, and of free ones nothing is said
abbrev Stand : NetList → TracksView → (ℕ → Type 0) → Type 0
Stand c t P = IsSwept c t.tracks t.count (λ k. false) P (λ n. 0)

stand : (c : NetList) (tracks : List ℕ) (count : ℕ) (free : ℕ → Bool) (P : ℕ → Type 0) (l : ℕ → ℕ) → IsSwept c tracks count free P l → IsSwept c tracks count (λ k. false) P (λ n. 0)
stand c tracks count free P l s = record {
  size = s.size;
  each = s.each;
  below = s.below;
  ended = λ k f. absurd (bit_absurd false f refl);
  busy = λ k lt f. let u = s.used k lt in (u.0, u.1, u.2, let z = last_positive c u.0 in omega (arith, z));
  used = s.used;
}

-- one turn
module _ (c : NetList) (tracks : List ℕ) (count n : ℕ) where
  abbrev k : ℕ
  k = least_free c tracks n count 0

  abbrev more : ℕ
  more = if k == count then count + 1 else count

  abbrev free : ℕ → Bool
  free j = if nat_lt j count then not (is_taken c tracks n j (length c.nets)) else false

  abbrev after : ℕ → Bool
  after j = if j == k then false else free j

  more_is : ((k ≡ count) × (more ≡ count + 1)) ⊎ ((k < count) × (more ≡ count))
  more_is = elim (eqb_tells k count) [
    | inl t ↦ inl (t.1, ap (λ b. if b then count + 1 else count) t.0)
    | inr f ↦ inr (let l = (least_is c tracks n count 0).to in let o = f.1 in elim (cases_lt k count) [ inl lt ↦ lt | inr ge ↦ absurd (o (omega (arith, l, ge))) ], ap (λ b. if b then count + 1 else count) f.0)
  ]

  free_in : (j : ℕ) → j < count → free j ≡ not (is_taken c tracks n j (length c.nets))
  free_in j lt = ap (λ b. if b then not (is_taken c tracks n j (length c.nets)) else false) (lt-ltb j count lt)

  free_below : (j : ℕ) → free j ≡ true → j < count
  free_below j f = elim (leb_tells (suc j) count) [ inl t ↦ t.1 | inr g ↦ absurd (bit_absurd (free j) f (ap (λ b. if b then not (is_taken c tracks n j (length c.nets)) else false) g.0)) ]

  free_not : (j : ℕ) → free j ≡ true → is_taken c tracks n j (length c.nets) ≡ false
  free_not j f = by (is_taken c tracks n j (length c.nets)) refl
    where
      by : (b : Bool) → is_taken c tracks n j (length c.nets) ≡ b → b ≡ false
      by false e = refl
      by true e = absurd (bit_absurd (free j) f (free_in j (free_below j f) ∙ ap not e))

  taken_in : (j : ℕ) → j < count → free j ≡ false → is_taken c tracks n j (length c.nets) ≡ true
  taken_in j lt f = by (is_taken c tracks n j (length c.nets)) refl
    where
      by : (b : Bool) → is_taken c tracks n j (length c.nets) ≡ b → b ≡ true
      by true e = refl
      by false e = absurd (bit_absurd (free j) (free_in j lt ∙ ap not e) f)

  next : IsNext free after count more k
  next = record {
    own = elim more_is [ inl new ↦ inr new.0 | inr old ↦ inl (free_in k old.0 ∙ ap not ((least_is c tracks n count 0).own (omega (arith, old.0)))) ];
    lower = λ j below. let l = (least_is c tracks n count 0).to in let lt : j < count = omega (arith, below, l) in (lt, free_in j lt ∙ ap not ((least_is c tracks n count 0).lower j (omega arith) below));
    gone = ap (λ b. if b then false else free k) (eq-eqb k k refl);
    others = λ j other. elim (eqb_tells j k) [ inl t ↦ absurd (other t.1) | inr f ↦ ap (λ b. if b then false else free j) f.0 ];
    grows = elim more_is [ inl new ↦ omega (arith, new.1) | inr old ↦ omega (arith, old.1) ];
    within = elim more_is [ inl new ↦ omega (arith, new.0, new.1) | inr old ↦ omega (arith, old.0, old.1) ];
    only = λ j lt. elim (cases_lt j count) [ inl low ↦ inl low | inr ge ↦ elim more_is [ inl new ↦ inr (omega (arith, ge, lt, new.0, new.1)) | inr old ↦ inl (omega (arith, lt, old.1)) ] ];
  }

  pub turn : (P : ℕ → Type 0) → AreNets c.nets → n < length c.nets → ((m : ℕ) → P m → (m < length c.nets) × IsBefore c m n) → ((m : ℕ) → m < length c.nets → IsBefore c m n → P m)
      → IsSwept c tracks count (λ k. false) P (λ n. 0) → IsSwept c (slice_set tracks n k) more (λ k. false) (λ m. P m ⊎ (m ≡ n)) (λ n. 0)
  turn P are lt before all s =
      stand c (slice_set tracks n k) more after (λ m. P m ⊎ (m ≡ n)) (λ m. ahead (first c n))
      (place c tracks count more k n free after P (λ m. ahead (first c n)) swept lt before all (λ m p less. ahead_of (first c n) (last c m) less) (λ m p le. ahead_from (first c n) (last c m) (last_positive c m) le)
      (ahead_less (first c n) (last c n) (last_positive c n) (first_last c n are lt)) next)
    where
      swept : IsSwept c tracks count free P (λ m. ahead (first c n))
      swept = record {
        size = s.size;
        each = s.each;
        below = s.below;
        ended = λ j f. (free_below j f, λ m p e. let w = before m p in ahead_of (first c n) (last c m) (taken_not c tracks n j (length c.nets) (free_not j f) m w.0 w.1 e));
        busy = λ j below f. let b = taken_by c tracks n j (length c.nets) (taken_in j below f) in (b.0, all b.0 b.1 b.2, b.3, ahead_less (first c n) (last c b.0) (last_positive c b.0) b.4);
        used = s.used;
      }

-- the turns of the inputs
input_turns : (c : NetList) (b : ℕ) → AreNets c.nets → b ≤ length c.nets → Stand c (after_inputs c b) (IsInputBy c b)
input_turns c zero are le = none_yet c (replicate (length c.nets) 0) (λ k. false) (length-replicate (length c.nets) 0) (λ k. refl)
input_turns c (suc n) are le = by (first c n == 0) refl (input_turns c n are (omega (arith, le)))
  where
    e : n + 1 ≡ suc n
    e = omega arith

    by : (b : Bool) → (first c n == 0) ≡ b → Stand c (after_inputs c n) (IsInputBy c n) → Stand c (if b then take_turn c (after_inputs c n) n else after_inputs c n) (IsInputBy c (suc n))
    by true is s =
        let z = eqb-true (first c n) 0 is in
        let lt : n < length c.nets = omega (arith, le) in
        keep c (take_turn c (after_inputs c n) n).tracks (take_turn c (after_inputs c n) n).count (λ k. false) (λ m. IsInputBy c n m ⊎ (m ≡ n)) (IsInputBy c (suc n)) (λ n. 0) (λ n. 0)
        (turn c (after_inputs c n).tracks (after_inputs c n).count n (IsInputBy c n) are lt
        (λ m p. (p.0, inr (omega (arith, p.1, z), p.2)))
        (λ m below b. elim b [ inl less ↦ absurd (omega (arith, less, z)) | inr same ↦ (below, omega (arith, same.0, z), same.1) ]) s)
        (λ m p. elim p [ inl old ↦ (old.0, old.1, omega (arith, old.2)) | inr same ↦ (subst (λ i. i < length c.nets) (sym same) lt, ap (first c) same ∙ z, omega (arith, same)) ])
        (λ m q. elim (cases_eq m n) [ inl same ↦ inr same | inr other ↦ inl (q.0, q.1, omega (arith, q.2, other)) ]) (λ m p d. d) (λ m p d. d)
    by false is s = subst (λ i. Stand c (after_inputs c n) (IsInputBy c i)) e (no_input c (after_inputs c n).tracks (after_inputs c n).count n (λ k. false) (λ z. bit_absurd (first c n == 0) (eq-eqb (first c n) 0 z) is) s)

-- and those of the gates
gate_turns : (c : NetList) (g : ℕ) → AreNets c.nets → g ≤ gate_count c.nets → Stand c (after_gates c g) (BeginsBy c (6 * g))
gate_turns c zero are le =
    keep c (after_inputs c (length c.nets)).tracks (after_inputs c (length c.nets)).count (λ k. false) (IsInputBy c (length c.nets)) (BeginsBy c (6 * 0)) (λ n. 0) (λ n. 0) (input_turns c (length c.nets) are (omega arith))
    (λ m p. (p.0, omega (arith, p.1))) (λ m q. (q.0, omega (arith, q.1), q.0)) (λ m p d. d) (λ m p d. d)
gate_turns c (suc g) are le =
    keep c (take_turn c (after_gates c g) (net_of c.nets g)).tracks (take_turn c (after_gates c g) (net_of c.nets g)).count (λ k. false) (λ m. BeginsBy c (6 * g) m ⊎ (m ≡ (net_of c.nets g))) (BeginsBy c (6 * suc g)) (λ n. 0) (λ n. 0)
    (turn c (after_gates c g).tracks (after_gates c g).count (net_of c.nets g) (BeginsBy c (6 * g)) are facts.0
    (λ m p. (p.0, inl (omega (arith, p.1, facts.1))))
    (λ m below b. elim b [ inl less ↦ (below, begun m below less) | inr same ↦ absurd (let s = one m below (same.0 ∙ facts.1) in omega (arith, s, same.1)) ]) (gate_turns c g are (omega (arith, le))))
    (λ m p. elim p [ inl old ↦ (old.0, omega (arith, old.1)) | inr same ↦ (subst (λ i. i < length c.nets) (sym same) facts.0, subst (λ i. first c i ≤ 6 * suc g) (sym same) (omega (arith, facts.1))) ])
    (λ m q. elim (cases_lt (first c m) (first c (net_of c.nets g))) [ inl less ↦ inl (q.0, begun m q.0 less) | inr ge ↦ inr (one m q.0 (up m q.0 q.1 ge)) ]) (λ m p d. d) (λ m p d. d)
  where
    facts : (net_of c.nets g < length c.nets) × (first c (net_of c.nets g) ≡ 6 * g + 5)
    facts = gate_facts c.nets g (omega (arith, le))

    begun : (m : ℕ) → m < length c.nets → first c m < first c (net_of c.nets g) → first c m ≤ 6 * g
    begun m below less = elim (source_facts c.nets m below) [ inl z ↦ omega (arith, z) | inr h ↦ let f = facts.1 in omega (arith, h.2, less, f) ]

    one : (m : ℕ) → m < length c.nets → first c m ≡ 6 * g + 5 → m ≡ (net_of c.nets g)
    one m below at = elim (net_facts c.nets m below) [
      | inl z ↦ absurd (omega (arith, z, at))
      | inr h ↦ let same : h.0 ≡ g = omega (arith, h.3, at) in sym h.2 ∙ ap (net_of c.nets) same
    ]

    up : (m : ℕ) → m < length c.nets → first c m ≤ 6 * suc g → first c (net_of c.nets g) ≤ first c m → first c m ≡ 6 * g + 5
    up m below within ge = let f = facts.1 in elim (source_facts c.nets m below) [ inl z ↦ absurd (omega (arith, z, ge, f)) | inr h ↦ omega (arith, h.2, within, ge, f) ]

list_after : (c : NetList) (b : ℕ) → (after_inputs c b).list ≡ c
list_after c zero = refl
list_after c (suc n) = by (first c n == 0) (list_after c n)
  where
    by : (b : Bool) → (after_inputs c n).list ≡ c → (if b then take_turn c (after_inputs c n) n else after_inputs c n).list ≡ c
    by true e = refl
    by false e = e

list_gates : (c : NetList) (g : ℕ) → (after_gates c g).list ≡ c
list_gates c zero = list_after c (length c.nets)
list_gates c (suc g) = refl

pub list_of : (c : NetList) → (tracks_of c).list ≡ c
unfolding tracks_of
list_of c = list_gates c (gate_count c.nets)

pub turns_are_tracks : (c : NetList) → AreNets c.nets → AreTracks c (tracks_of c).tracks (tracks_of c).count
unfolding tracks_of
turns_are_tracks c are = all_taken c (after_gates c (gate_count c.nets)).tracks (after_gates c (gate_count c.nets)).count (6 * gate_count c.nets) (λ k. false) (λ n. 0) (omega arith) (gate_turns c (gate_count c.nets) are (omega arith))

abbrev view : NetList → List ℕ → ℕ → TracksView
view c tracks count = record { list = c; tracks = tracks; count = count }

-- so a circuit has these tracks and no others
pub only_tracks : (c : NetList) (tracks : List ℕ) (count : ℕ) → AreTracks c (tracks_of c).tracks (tracks_of c).count → AreTracks c tracks count → view c tracks count ≡ tracks_of c
only_tracks c tracks count own is =
    let u = one_list c tracks (tracks_of c).tracks count (tracks_of c).count is own in
    ap (λ l. view l tracks count) (sym (list_of c)) ∙ ap (λ ts. view (tracks_of c).list ts count) u.0 ∙ ap (view (tracks_of c).list (tracks_of c).tracks) u.1

pub sites_are : (c : NetList) (tracks : List ℕ) (count : ℕ) → AreTracks c (tracks_of c).tracks (tracks_of c).count → AreTracks c tracks count → (2 * count + 2) * col_count c.nets ≡ site_count (tracks_of c)
sites_are c tracks count own is = ap site_count (only_tracks c tracks count own is)
