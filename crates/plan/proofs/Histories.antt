-- The history: there is one, there is only one, and key by key it has what the places offer.
use Rattle.std.proofs.Common.{◌≡◌, ℕ, zero, suc, ◌+◌, ◌*◌, ◌<◌, ◌≤◌, List, [], ◌∷◌, ◌++◌, Option, Some, None, true, false, ◌⊎◌, inl, inr, refl, sym, ap, ◌∙◌, subst, arith, cond}
use Rattle.std.specs.Option.{option_map_or}
use Rattle.std.proofs.Math.Nat.{mul-le-mul_right}
use Rattle.std.proofs.lemmas.Bool.{cases_Bool}
use Rattle.std.proofs.lemmas.Bool.Decides.{nat_tests}
use Rattle.std.proofs.lemmas.Option.{none-some, same_Some}
use Rattle.surf_kinds.specs.declared.site.SiteState.{SiteState}
use Rattle.surf_kinds.specs.declared.event.Event.{Event}
use Rattle.surf_kinds.specs.declared.event.Key.{Key}
use Rattle.surf_kinds.specs.Keys.{key_of, same_key, is_before, below, at, ◌is_below◌, ◌is_upto◌, AllKeys, IsRising}
use Rattle.surf_kinds.specs.Steps.{end_of_places}
use Rattle.surf_kinds.proofs.Order.{key_cases, le_lt, lt_not_le, lt_lt, lt_to_le, same_refl, same_is, upto_both, below_not_same}
use Rattle.surf_kinds.proofs.Tables.{none_or_some, keep_yes, keep_none, AllKeys_weaker, at_before_all}
use Rattle.lattice.specs.Surface.{after, after_all}
use Rattle.lattice.proofs.LawLemmas.{place_below}
use Rattle.plan.specs.Network.{Network}
use Rattle.plan.specs.Next.{next}
use Rattle.plan.specs.History.{due, first_events, key_count, history, IsHistory, AreNext, IsIn, if_at}
use Rattle.plan.proofs.Offers.{of_next, of_states, offer_place}
use Rattle.plan.proofs.Changes.{offer_after, offer_again}
use Rattle.plan.proofs.Leasts.{due_next, due_upto, due_first}

-- Keys rise from event to event

-- all that the surface offers has a key above this one
abbrev pub OffersAbove : Network → List SiteState → Key → Type 0
OffersAbove n sites k = (place : ℕ) (g : Event) → next n sites place ≡ Some g → k is_below key_of g

-- what a surface offers after an event is above it
pub rises : (n : Network) (until : ℕ) (sites : List SiteState) (e : Event) → due n until sites ≡ Some e → OffersAbove n (after n.lattice n.rules sites e) (key_of e)
rises n until sites e d place g o =
    elim (offer_after n sites e g place o) [
      | inl old ↦ elim (key_cases (key_of e) (key_of g)) [
        | inl p ↦ p
        | inr p ↦
            let same : key_of e ≡ key_of g = upto_both (key_of e) (key_of g) (due_first n until sites e g place d old) p in
            let here : e.place.0 ≡ place = ap (λ (k : Key). k.place.0) same ∙ offer_place n (after n.lattice n.rules sites e) place g o in
            later (offer_again n sites e g (ap (next n (after n.lattice n.rules sites e)) here ∙ o))
      ]
      | inr p ↦ later p
    ]
  where
    later : e.time < g.time → key_of e is_below key_of g
    later p = grind (arith, nat_tests, p)

above_after : (n : Network) (until : ℕ) (sites : List SiteState) (k : Key) (e : Event) → OffersAbove n sites k → due n until sites ≡ Some e → OffersAbove n (after n.lattice n.rules sites e) k
above_after n until sites k e floor d place g o = lt_lt k (key_of e) (key_of g) (floor e.place.0 e (due_next n until sites e d).0) (rises n until sites e d place g o)

-- each event of the history of a surface that offers only what is above k
all_above : (n : Network) (until : ℕ) (k : Key) (es : List Event) (sites : List SiteState) → OffersAbove n sites k → IsHistory n until sites es → AllKeys (λ j. k is_below j) es
all_above n until k [] sites floor h = tt
all_above n until k (e ∷ es) sites floor h = (
  floor e.place.0 e (due_next n until sites e h.0).0,
  all_above n until k es (after n.lattice n.rules sites e) (above_after n until sites k e floor h.0) h.1,
)

-- those behind an event of a history are above it
behind : (n : Network) (until : ℕ) (e : Event) (es : List Event) (sites : List SiteState) → IsHistory n until sites (e ∷ es) → AllKeys (λ j. key_of e is_below j) es
behind n until e es sites h = all_above n until (key_of e) es (after n.lattice n.rules sites e) (rises n until sites e h.0) h.1

pub rising : (n : Network) (until : ℕ) (es : List Event) (sites : List SiteState) → IsHistory n until sites es → IsRising es
rising n until [] sites h = tt
rising n until (e ∷ es) sites h = (behind n until e es sites h, rising n until es (after n.lattice n.rules sites e) h.1)

-- There is a history, and only one

-- the number of keys below a key
rank : ℕ → Key → ℕ
rank places k = k.time * places + k.place.0

-- all that the surface offers has at least so many keys below it
abbrev OffersFrom : Network → List SiteState → ℕ → Type 0
OffersFrom n sites r = (place : ℕ) (g : Event) → next n sites place ≡ Some g → r ≤ rank (end_of_places (n.lattice.rows * n.lattice.cols)) (key_of g)

place_within : (n : Network) (sites : List SiteState) (place : ℕ) (g : Event) → next n sites place ≡ Some g → g.place.0 < end_of_places (n.lattice.rows * n.lattice.cols)
place_within n sites place g h =
    let o = of_next n sites place g h in
    let d = of_states n.lattice sites place o.states o.states_is in
    subst (λ p. p < end_of_places (n.lattice.rows * n.lattice.cols)) (sym o.event.at_place) (place_below n.lattice place d.pair d.is)

-- a key within the duration has fewer below it than there are
rank_within : (places until : ℕ) (k : Key) → k.time ≤ until → k.place.0 < places → rank places k < (until + 1) * places
unfolding rank
rank_within places until k le lt =
    let product : k.time * places ≤ until * places = mul-le-mul_right places le in
    let more : (until + 1) * places ≡ until * places + places = omega arith in
    omega (arith, product, more, lt)

rank_rises : (places : ℕ) (j k : Key) → j is_below k → j.place.0 < places → rank places j < rank places k
unfolding rank
rank_rises places j k h lt =
    elim (order j k h) [
      | inl earlier ↦
          let product : (j.time + 1) * places ≤ k.time * places = mul-le-mul_right places (omega (arith, earlier)) in
          let more : (j.time + 1) * places ≡ j.time * places + places = omega arith in
          omega (arith, product, more, lt)
      | inr same ↦ omega (arith, ap (λ t. t * places) same.0, same.1)
    ]
  where
    order : (j k : Key) → j is_below k → (j.time < k.time) ⊎ ((j.time ≡ k.time) × (j.place.0 < k.place.0))
    order j k h = grind (arith, nat_tests, h)

-- so many events are enough
enough : (n : Network) (until m r : ℕ) (sites : List SiteState) → OffersFrom n sites r → key_count n until ≤ m + r → IsHistory n until sites (first_events n until m sites)
enough n until zero r sites floor le = none_or_some_due (none_or_some (due n until sites))
  where
    none_or_some_due : (due n until sites ≡ None) ⊎ ((e : Event) × (due n until sites ≡ Some e)) → due n until sites ≡ None
    none_or_some_due (inl none) = none
    none_or_some_due (inr (e, h)) =
        let d = due_next n until sites e h in
        let low : rank (end_of_places (n.lattice.rows * n.lattice.cols)) (key_of e) < key_count n until = rank_within (end_of_places (n.lattice.rows * n.lattice.cols)) until (key_of e) d.1 (place_within n sites e.place.0 e d.0) in
        let high : r ≤ rank (end_of_places (n.lattice.rows * n.lattice.cols)) (key_of e) = floor e.place.0 e d.0 in
        absurd (omega (arith, low, high, le))
enough n until (suc m) r sites floor le = elim (none_or_some (due n until sites)) [
  | inl none ↦ subst (IsHistory n until sites) (sym (ap (λ o. option_map_or (λ e. e ∷ first_events n until m (after n.lattice n.rules sites e)) o []) none)) none
  | inr some ↦
      let e : Event = some.0 in
      let here = (due_next n until sites e some.1).0 in
      let low : r ≤ rank (end_of_places (n.lattice.rows * n.lattice.cols)) (key_of e) = floor e.place.0 e here in
      let up : OffersFrom n (after n.lattice n.rules sites e) (r + 1) = λ place g o.
      let above = rank_rises (end_of_places (n.lattice.rows * n.lattice.cols)) (key_of e) (key_of g) (rises n until sites e some.1 place g o) (place_within n sites e.place.0 e here) in
      omega (arith, low, above) in
      subst (IsHistory n until sites) (sym (ap (λ o. option_map_or (λ e. e ∷ first_events n until m (after n.lattice n.rules sites e)) o []) some.1))
      (some.1, enough n until m (r + 1) (after n.lattice n.rules sites e) up (omega (arith, le)))
]

-- the history is one
pub is_history : (n : Network) (until : ℕ) (sites : List SiteState) → IsHistory n until sites (history n until sites)
unfolding history
is_history n until sites = enough n until (key_count n until) 0 sites (λ place g o. omega arith) (omega arith)

-- no other list is
pub only_history : (n : Network) (until : ℕ) (es fs : List Event) (sites : List SiteState) → IsHistory n until sites es → IsHistory n until sites fs → es ≡ fs
only_history n until [] [] sites h k = refl
only_history n until [] (f ∷ fs) sites h k = absurd (none-some f (sym h ∙ k.0))
only_history n until (e ∷ es) [] sites h k = absurd (none-some e (sym k ∙ h.0))
only_history n until (e ∷ es) (f ∷ fs) sites h k =
    let same : f ≡ e = same_Some f e (sym k.0 ∙ h.0) in
    let rest : IsHistory n until (after n.lattice n.rules sites e) fs = subst (λ (x : Event). IsHistory n until (after n.lattice n.rules sites x) fs) same k.1 in
    ap (λ xs. e ∷ xs) (only_history n until es fs (after n.lattice n.rules sites e) h.1 rest) ∙ ap (λ x. x ∷ fs) (sym same)

-- the history's rule: the event that is due, and then the history of what it leaves
pub history_due : (n : Network) (until : ℕ) (sites : List SiteState) (e : Event) → due n until sites ≡ Some e → history n until sites ≡ e ∷ history n until (after n.lattice n.rules sites e)
history_due n until sites e h =
    only_history n until (history n until sites) (e ∷ history n until (after n.lattice n.rules sites e)) sites (is_history n until sites) (h, is_history n until (after n.lattice n.rules sites e))

pub history_none : (n : Network) (until : ℕ) (sites : List SiteState) → due n until sites ≡ None → history n until sites ≡ []
history_none n until sites h = only_history n until (history n until sites) [] sites (is_history n until sites) h

-- after the next events the history goes on
pub history_next : (n : Network) (until : ℕ) (sites : List SiteState) (es : List Event) → AreNext n until sites es → history n until sites ≡ es ++ history n until (after_all n.lattice n.rules sites es)
history_next n until sites [] h = refl
history_next n until sites (e ∷ es) h = history_due n until sites e h.0 ∙ ap (λ xs. e ∷ xs) (history_next n until (after n.lattice n.rules sites e) es h.1)

-- Key by key

-- at a key that no event of the surface is before
at_first : (n : Network) (until : ℕ) (es : List Event) (sites : List SiteState) (k : Key) → IsHistory n until sites es → k.time ≤ until → AllKeys (λ j. k is_upto j) es → at k es ≡ if_at k (next n sites k.place.0)
at_first n until es sites k h le all = go es h all (next n sites k.place.0) refl
  where
    -- the offer, where it has another key
    apart : (g : Event) → same_key (key_of g) k ≡ false → if_at k (Some g) ≡ None
    apart g differs = ap (λ b. cond b (Some g) None) differs

    -- the offer at this key is due, or something is that isn't after it
    first : (g : Event) → next n sites k.place.0 ≡ Some g → same_key (key_of g) k ≡ true → (f : Event) × (due n until sites ≡ Some f) × (key_of f is_upto k)
    first g o same =
        let is : key_of g ≡ k = same_is (key_of g) k same in
        let b = due_upto n until sites k.place.0 g (subst (λ (j : Key). j.time ≤ until) (sym is) le) o in
        (b.event, b.is, subst (λ j. key_of b.event is_upto j) is b.upto)

    go : (es : List Event) → IsHistory n until sites es → AllKeys (λ j. k is_upto j) es → (o : Option Event) → next n sites k.place.0 ≡ o → at k es ≡ if_at k o
    go [] h all None is = refl
    go [] h all (Some g) is =
        elim (cases_Bool (same_key (key_of g) k)) [
          | inl p ↦ let f = first g is p in absurd (none-some f.0 (sym h ∙ f.1))
          | inr p ↦ sym (apart g p)
        ]
    go (x ∷ es) h all o is =
        let here : next n sites x.place.0 ≡ Some x = (due_next n until sites x h.0).0 in
        elim (cases_Bool (same_key (key_of x) k)) [
          | inl p ↦
              let same : o ≡ Some x = sym is ∙ (ap (λ (j : Key). next n sites j.place.0) (sym (same_is (key_of x) k p)) ∙ here) in
              ap (λ b. cond b (Some x) (at k es)) p ∙ sym (ap (if_at k) same ∙ ap (λ b. cond b (Some x) None) p)
          | inr p ↦
              let above : k is_below key_of x = strict (key_of x) p all.0 in
              let none : at k (x ∷ es) ≡ None = at_before_all k (x ∷ es) (above, AllKeys_weaker (λ j. key_of x is_below j) (λ j. k is_below j) (λ j l. lt_lt k (key_of x) j above l) es (behind n until x es sites h)) in
              none ∙ sym (other o is above)
        ]
      where
        strict : (j : Key) → same_key j k ≡ false → k is_upto j → k is_below j
        strict j differs u = grind (arith, nat_tests, differs, u)

        other : (o : Option Event) → next n sites k.place.0 ≡ o → k is_below key_of x → if_at k o ≡ None
        other None is above = refl
        other (Some g) is above =
            elim (cases_Bool (same_key (key_of g) k)) [
              | inl p ↦
                  let f = first g is p in
                  let same : f.0 ≡ x = same_Some f.0 x (sym f.1 ∙ h.0) in
                  absurd (lt_not_le k (key_of x) above (subst (λ (y : Event). key_of y is_upto k) same f.2))
              | inr p ↦ apart g p
            ]

-- the history has at a key what the surface after the events below it offers there
pub at_history : (n : Network) (until : ℕ) (es : List Event) (sites : List SiteState) (k : Key) → IsHistory n until sites es → k.time ≤ until → at k es ≡ if_at k (next n (after_all n.lattice n.rules sites (below k es)) k.place.0)
at_history n until [] sites k h le = at_first n until [] sites k h le tt
at_history n until (x ∷ es) sites k h le =
    elim (key_cases (key_of x) k) [
      | inl p ↦
          ap (λ b. cond b (Some x) (at k es)) (below_not_same (key_of x) k p)
          ∙ (at_history n until es (after n.lattice n.rules sites x) k h.1 le
          ∙ ap (λ l. if_at k (next n (after_all n.lattice n.rules sites l) k.place.0)) (sym (keep_yes (λ j. is_before j k) x es p)))
      | inr p ↦
          let later : AllKeys (λ j. k is_upto j) es = AllKeys_weaker (λ j. key_of x is_below j) (λ j. k is_upto j) (λ j l. lt_to_le k j (le_lt k (key_of x) j p l)) es (behind n until x es sites h) in
          let none : below k (x ∷ es) ≡ [] = keep_none (λ j. is_before j k) (x ∷ es) (p, later) in
          at_first n until (x ∷ es) sites k h le (p, later)
          ∙ ap (λ l. if_at k (next n (after_all n.lattice n.rules sites l) k.place.0)) (sym none)
    ]

-- members of a list, and what it has at a key
in_at : (k : Key) (es : List Event) (e : Event) → at k es ≡ Some e → IsIn e es
in_at k [] e h = absurd (none-some e h)
in_at k (x ∷ es) e h =
    elim (cases_Bool (same_key (key_of x) k)) [
      | inl p ↦ inl (same_Some x e (sym (ap (λ b. cond b (Some x) (at k es)) p) ∙ h))
      | inr p ↦ inr (in_at k es e (sym (ap (λ b. cond b (Some x) (at k es)) p) ∙ h))
    ]

in_all : (P : Key → Type 0) (es : List Event) (e : Event) → AllKeys P es → IsIn e es → P (key_of e)
in_all P [] e all h = absurd h
in_all P (x ∷ es) e all (inl same) = subst (λ (y : Event). P (key_of y)) same all.0
in_all P (x ∷ es) e all (inr deep) = in_all P es e all.1 deep

at_in : (es : List Event) (e : Event) → IsRising es → IsIn e es → at (key_of e) es ≡ Some e
at_in [] e r h = absurd h
at_in (x ∷ es) e r (inl same) = ap (λ b. cond b (Some x) (at (key_of e) es)) (subst (λ (y : Event). same_key (key_of x) (key_of y) ≡ true) same (same_refl (key_of x))) ∙ ap (λ y. Some y) same
at_in (x ∷ es) e r (inr deep) =
    ap (λ b. cond b (Some x) (at (key_of e) es)) (below_not_same (key_of x) (key_of e) (in_all (λ j. key_of x is_below j) es e r.0 deep)) ∙ at_in es e r.1 deep

in_time : (n : Network) (until : ℕ) (es : List Event) (sites : List SiteState) (e : Event) → IsHistory n until sites es → IsIn e es → e.time ≤ until
in_time n until [] sites e h p = absurd p
in_time n until (x ∷ es) sites e h (inl same) = subst (λ (y : Event). y.time ≤ until) same (due_next n until sites x h.0).1
in_time n until (x ∷ es) sites e h (inr deep) = in_time n until es (after n.lattice n.rules sites x) e h.1 deep

if_at_some : (k : Key) (o : Option Event) (e : Event) → if_at k o ≡ Some e → o ≡ Some e
if_at_some k None e h = absurd (none-some e h)
if_at_some k (Some g) e h =
    elim (cases_Bool (same_key (key_of g) k)) [
      | inl p ↦ sym (ap (λ b. cond b (Some g) None) p) ∙ h
      | inr p ↦ absurd (none-some e (sym (ap (λ b. cond b (Some g) None) p) ∙ h))
    ]

pub found : (n : Network) (until : ℕ) (es : List Event) (sites : List SiteState) (e : Event) → IsHistory n until sites es → IsIn e es → next n (after_all n.lattice n.rules sites (below (key_of e) es)) e.place.0 ≡ Some e
found n until es sites e h p =
    if_at_some (key_of e) _ e (sym (at_history n until es sites (key_of e) h (in_time n until es sites e h p)) ∙ at_in es e (rising n until es sites h) p)

pub only : (n : Network) (until : ℕ) (es : List Event) (sites : List SiteState) (e : Event) → IsHistory n until sites es → e.time ≤ until → next n (after_all n.lattice n.rules sites (below (key_of e) es)) e.place.0 ≡ Some e → IsIn e es
only n until es sites e h le o =
    in_at (key_of e) es e
    (at_history n until es sites (key_of e) h le ∙ (ap (if_at (key_of e)) o ∙ ap (λ b. cond b (Some e) None) (same_refl (key_of e))))
