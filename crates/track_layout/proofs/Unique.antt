-- A circuit has one list of tracks.
use Rattle.std.proofs.Common.{◌≡◌, ℕ, zero, suc, ◌+◌, ◌*◌, ◌<◌, ◌≤◌, inl, inr, List, [], ◌∷◌, length, Bool, true, false, refl, sym, ap, ◌∙◌, arith, get_or, ◌==◌}
use Rattle.std.specs.Prelude.{◌||◌}
use Rattle.std.specs.List.{list_any}
use Rattle.std.proofs.lemmas.Bool.{cases_lt, eqb-true}
use Rattle.std.proofs.Math.Nat.{mul-le-mul_right}
use Rattle.circuit_text.specs.Circuits.{NetList}
use Rattle.track_layout.specs.Spans.{first}
use Rattle.track_layout.specs.Tracks.{IsBefore, track_in, AreTracks}

same_list : (xs ys : List ℕ) → length xs ≡ length ys → ((n : ℕ) → n < length xs → get_or xs n 0 ≡ get_or ys n 0) → xs ≡ ys
same_list [] [] size each = refl
same_list [] (y ∷ ys) size each = absurd (omega (arith, size))
same_list (x ∷ xs) [] size each = absurd (omega (arith, size))
same_list (x ∷ xs) (y ∷ ys) size each = ap (λ z. z ∷ xs) (each 0 (omega arith)) ∙ ap (λ zs. y ∷ zs) (same_list xs ys (omega (arith, size)) (λ n lt. each (suc n) (omega (arith, lt))))

-- a net's place among all of them
place : NetList → ℕ → ℕ
place c n = first c n * length c.nets + n

place_rises : (c : NetList) (m n : ℕ) → m < length c.nets → n < length c.nets → IsBefore c m n → place c m < place c n
unfolding place
place_rises c m n lm ln b = elim b [
  | inl lt ↦
      let k : (first c m + 1) * length c.nets ≤ first c n * length c.nets = mul-le-mul_right (length c.nets) (omega (arith, lt)) in
      let e : (first c m + 1) * length c.nets ≡ first c m * length c.nets + length c.nets = omega arith in
      omega (arith, k, e, lm)
  | inr same ↦ let e : first c m * length c.nets ≡ first c n * length c.nets = ap (λ z. z * length c.nets) same.0 in omega (arith, e, same.1)
]

agree : (c : NetList) (v w : List ℕ) (count others : ℕ) → AreTracks c v count → AreTracks c w others → (b n : ℕ) → n < length c.nets → place c n < b → track_in v n ≡ track_in w n
agree c v w count others av aw zero n lt below = absurd (omega (arith, below))
agree c v w count others av aw (suc b) n lt below = step (λ m lm before. agree c v w count others av aw b m lm (let r = place_rises c m n lm lt before in omega (arith, r, below)))
  where
    step : ((m : ℕ) → m < length c.nets → IsBefore c m n → track_in v m ≡ track_in w m) → track_in v n ≡ track_in w n
    step earlier = elim (cases_lt (track_in v n) (track_in w n)) [
      | inl less ↦ absurd ((aw.1 n lt).1 (track_in v n) less (λ m lm before e. (av.1 n lt).0 m lm before (earlier m lm before ∙ e)))
      | inr ge ↦ elim (cases_lt (track_in w n) (track_in v n)) [
        | inl less ↦ absurd ((av.1 n lt).1 (track_in w n) less (λ m lm before e. (aw.1 n lt).0 m lm before (sym (earlier m lm before) ∙ e)))
        | inr le ↦ omega (arith, ge, le)
      ]
    ]

found : (tracks : List ℕ) (k : ℕ) → list_any (λ t. t == k) tracks ≡ true → (n : ℕ) × (n < length tracks) × (get_or tracks n 0 ≡ k)
found [] k is = absurd cc
found (t ∷ tracks) k is = by (t == k) refl is (λ q. found tracks k q)
  where
    by : (b : Bool) → (t == k) ≡ b → (b || list_any (λ t. t == k) tracks) ≡ true → (list_any (λ t. t == k) tracks ≡ true → (n : ℕ) × (n < length tracks) × (get_or tracks n 0 ≡ k))
        → (n : ℕ) × (n < length (t ∷ tracks)) × (get_or (t ∷ tracks) n 0 ≡ k)
    by true e q before = (0, omega arith, eqb-true t k e)
    by false e q before = let r = before q in (suc r.0, omega (arith, r.1), r.2)

-- the last track has a net
pub last_has : (c : NetList) (tracks : List ℕ) (count : ℕ) → AreTracks c tracks count → 0 < count → (n : ℕ) × (n < length c.nets) × (track_in tracks n + 1 ≡ count)
last_has c tracks zero are some = absurd (omega (arith, some))
last_has c tracks (suc k) are some = let f = found tracks k (are.3 k (omega arith)) in (f.0, omega (arith, f.1, are.0), omega (arith, f.2))

fewer : (c : NetList) (v w : List ℕ) (count others : ℕ) → AreTracks c v count → AreTracks c w others → v ≡ w → others ≤ count
fewer c v w count others av aw same = elim (cases_lt count others) [
  | inr le ↦ le
  | inl lt ↦ absurd (let f = found w count (aw.3 count lt) in let b = av.2 f.0 (omega (arith, f.1, aw.0)) in let e : track_in v f.0 ≡ track_in w f.0 = ap (λ z. track_in z f.0) same in omega (arith, b, e, f.2))
]

pub one_list : (c : NetList) (v w : List ℕ) (count others : ℕ) → AreTracks c v count → AreTracks c w others → (v ≡ w) × (count ≡ others)
one_list c v w count others av aw =
    let same : v ≡ w = same_list v w (omega (arith, av.0, aw.0)) (λ n lt. agree c v w count others av aw (suc (place c n)) n (omega (arith, lt, av.0)) (omega arith)) in
    (same, omega (arith, fewer c v w count others av aw same, fewer c w v others count aw av (sym same)))
