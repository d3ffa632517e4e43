-- Events whose keys all differ, and their order.
use Rattle.std.proofs.Common.{◌≡◌, ℕ, suc, ◌+◌, ◌<◌, ◌≤◌, List, [], ◌∷◌, true, false, inl, inr, refl, sym, ap, ◌∙◌, subst, arith, cond, length, get_or, nat_lt, ◌==◌, ◌&&◌, ◌||◌, Bool}
use Rattle.std.specs.Prelude.{slice_index_or}
use Rattle.std.specs.Ordering.{nat_cmp, ordering_then, is_lt}
use Rattle.std.specs.declared.cmp.Ordering.TheVariants.{Less, Equal, Greater}
use Rattle.std.specs.List.{sum_by, Contains}
use Rattle.std.proofs.lemmas.Bool.{cases_Bool}
use Rattle.std.proofs.lemmas.Bool.Decides.{nat_tests, eqb_tells}
use Rattle.std.proofs.lemmas.List.Sums.{sum_by-cons, sum_by-append}
use Rattle.surf_kinds.specs.declared.event.Event.{Event}
use Rattle.surf_kinds.specs.declared.event.Key.{Key}
use Rattle.surf_kinds.specs.Keys.{is_before, same_key, key_of, ◌is_below◌, ◌is_upto◌, AllKeys, IsRising, RiseFrom, RiseStrictly}
use Rattle.surf_kinds.proofs.Order.{same_is, same_refl, above_not_same, not_same_below}
use Rattle.surf_kinds.proofs.Rising.{rises}
use Rattle.ordered_commit.specs.Merge.{all_events, HaveOtherKeys, AreMergeable}

-- p, q: the times are less, equal; r, s: the places
lt_by : (p q r s : Bool) → is_lt (ordering_then (cond p Less (cond q Equal Greater)) (cond r Less (cond s Equal Greater))) ≡ (p || (q && r))
lt_by true q r s = refl
lt_by false true true s = refl
lt_by false true false true = refl
lt_by false true false false = refl
lt_by false false r s = refl

-- the order by which keys are sorted is that of keys
pub is_lt-cmp : (j k : Key) → is_lt (ordering_then (nat_cmp j.time k.time) (nat_cmp j.place.0 k.place.0)) ≡ is_before j k
is_lt-cmp j k = lt_by (nat_lt j.time k.time) (j.time == k.time) (nat_lt j.place.0 k.place.0) (j.place.0 == k.place.0)

-- 1 where the event has this key
abbrev pub one_at : Key → Event → ℕ
one_at k e = cond (same_key (key_of e) k) 1 0

-- how many events have it
abbrev pub count_at : Key → List Event → ℕ
count_at k es = sum_by (one_at k) es

count_yes : (k : Key) (e : Event) (es : List Event) → same_key (key_of e) k ≡ true → count_at k (e ∷ es) ≡ 1 + count_at k es
count_yes k e es h = sum_by-cons (one_at k) e es ∙ ap (λ b. cond b 1 0 + count_at k es) h

count_no : (k : Key) (e : Event) (es : List Event) → same_key (key_of e) k ≡ false → count_at k (e ∷ es) ≡ count_at k es
count_no k e es h =
    let here : one_at k e ≡ 0 = ap (λ b. cond b 1 0) h in omega (arith, sum_by-cons (one_at k) e es, here)

-- what lies above a key hasn't it
none_above : (k : Key) (es : List Event) → AllKeys (λ j. k is_below j) es → count_at k es ≡ 0
none_above k [] all = refl
none_above k (e ∷ es) all = count_no k e es (above_not_same k (key_of e) all.0) ∙ none_above k es all.1

-- a key comes at most once where keys rise
once : (k : Key) (es : List Event) → IsRising es → count_at k es ≤ 1
once k [] r = omega arith
once k (e ∷ es) r =
    elim (cases_Bool (same_key (key_of e) k)) [
      | inl p ↦
          let rest : count_at k es ≡ 0 = none_above k es (subst (λ j. AllKeys (λ i. j is_below i) es) (same_is (key_of e) k p) r.0) in
          omega (arith, count_yes k e es p, rest)
      | inr p ↦ omega (arith, count_no k e es p, once k es r.1)
    ]

later : {X : Type 0} (x : X) (xs : List X) (y : X) → Contains xs y → Contains (x ∷ xs) y
later x xs y h = (suc h.0, omega (arith, h.1), h.2)

-- an event that is counted is there
found : (k : Key) (es : List Event) → 1 ≤ count_at k es → (e : Event) × Contains es e × (key_of e ≡ k)
found k [] h = absurd (omega (arith, h))
found k (e ∷ es) h =
    elim (cases_Bool (same_key (key_of e) k)) [
      | inl p ↦ (e, (0, omega arith, refl), same_is (key_of e) k p)
      | inr p ↦
          let r = found k es (omega (arith, h, count_no k e es p)) in
          (r.0, later e es r.0 r.1, r.2)
    ]

found_in_all : (k : Key) (ls : List (List Event)) → 1 ≤ count_at k (all_events ls) → (i : ℕ) × (e : Event) × Contains (slice_index_or ls i []) e × (key_of e ≡ k)
found_in_all k [] h = absurd (omega (arith, h))
found_in_all k (es ∷ ls) h =
    elim (eqb_tells (count_at k es) 0) [
      | inl z ↦
          let r = found_in_all k ls (omega (arith, h, sum_by-append (one_at k) es (all_events ls), z.1)) in
          (suc r.0, r.1, r.2, r.3)
      | inr z ↦
          let r = found k es (omega (arith, z.1)) in
          (0, r.0, r.1, r.2)
    ]

same_keys : (e f : Event) → key_of e ≡ key_of f → HaveOtherKeys e f → ⊥
same_keys e f is h = grind (arith, nat_tests, ap (λ (k : Key). k.time) is, ap (λ (k : Key). k.place.0) is, h)

tail_mergeable : (es : List Event) (ls : List (List Event)) → AreMergeable (es ∷ ls) → AreMergeable ls
tail_mergeable es ls m =
    record {
      rise = λ k d h. m.rise (suc k) d (omega (arith, h));
      differ = λ i j e f h a b. m.differ (suc i) (suc j) e f (omega (arith, h)) a b;
    }

-- a key comes at most once in all lists
pub once_in_all : (ls : List (List Event)) → AreMergeable ls → (k : Key) → count_at k (all_events ls) ≤ 1
once_in_all [] m k = omega arith
once_in_all (es ∷ ls) m k =
    let first : count_at k es ≤ 1 = once k es (rises es (m.rise 0 [] (omega arith))) in
    let rest : count_at k (all_events ls) ≤ 1 = once_in_all ls (tail_mergeable es ls m) k in
    let both = sum_by-append (one_at k) es (all_events ls) in
    elim (eqb_tells (count_at k es) 0) [
      | inl z ↦ omega (arith, both, rest, z.1)
      | inr y ↦ elim (eqb_tells (count_at k (all_events ls)) 0) [
        | inl z ↦ omega (arith, both, first, z.1)
        | inr z ↦
            let a = found k es (omega (arith, y.1)) in
            let b = found_in_all k ls (omega (arith, z.1)) in
            absurd (same_keys a.0 b.1 (a.2 ∙ sym b.3) (m.differ 0 (suc b.0) a.0 b.1 (omega arith) a.1 b.2))
      ]
    ]

-- no event is before the one that stands in front of it
abbrev pub Ordered : List Event → Type 0
Ordered es = (k : ℕ) (d : Event) → k + 1 < length es → is_before (key_of (get_or es (k + 1) d)) (key_of (get_or es k d)) ≡ false

rising_from : (e : Event) (es : List Event) → Ordered (e ∷ es) → ((k : Key) → count_at k (e ∷ es) ≤ 1) → RiseFrom e es
rising_from e [] s u = tt
rising_from e (f ∷ fs) s u =
    let k = key_of f in
    let upto : key_of e is_upto k = s 0 e (omega arith) in
    let here = count_yes k f fs (same_refl k) in
    let below : key_of e is_below k = elim (cases_Bool (same_key (key_of e) k)) [
      | inl p ↦ absurd (omega (arith, count_yes k e (f ∷ fs) p, here, u k))
      | inr p ↦ not_same_below (key_of e) k p upto
    ] in
    let next : Ordered (f ∷ fs) = λ n d h.
    let same : suc n + 1 ≡ suc (n + 1) = omega arith in
    subst (λ m. is_before (key_of (get_or (e ∷ f ∷ fs) m d)) (key_of (get_or (f ∷ fs) n d)) ≡ false) same (s (suc n) d (omega (arith, h))) in
    (below, rising_from f fs next (λ j. omega (arith, sum_by-cons (one_at j) e (f ∷ fs), u j)))

-- events in order whose keys all differ rise strictly
pub rising : (es : List Event) → Ordered es → ((k : Key) → count_at k es ≤ 1) → RiseStrictly es
rising [] s u = tt
rising (e ∷ es) s u = rising_from e es s u
