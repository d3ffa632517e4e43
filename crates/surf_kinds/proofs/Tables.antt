-- Lists of events as tables from keys.
use Rattle.std.proofs.Common.{◌≡◌, Bool, true, false, ◌&&◌, List, [], ◌∷◌, ◌++◌, Option, Some, None, ◌⊎◌, inl, inr, refl, sym, ap, ◌∙◌, subst, cond, if◌then◌else◌}
use Rattle.std.proofs.lemmas.Bool.{cases_Bool}
use Rattle.std.proofs.lemmas.Option.{none-some, same_Some}
use Rattle.std.proofs.lemmas.List.Elements.{filter-append}
use Rattle.surf_kinds.specs.declared.event.Key.{Key}
use Rattle.surf_kinds.specs.declared.event.Event.{Event}
use Rattle.surf_kinds.specs.Keys.{same_key, key_of, ◌is_below◌, ◌is_upto◌, is_before, at, keep, below, AllKeys, IsRising}
use Rattle.surf_kinds.proofs.Order.{lt_le, lt_not_le, lt_to_le, same_refl, same_is, below_not_same, above_not_same, below_and}

pub none_or_some : (o : Option Event) → (o ≡ None) ⊎ ((e : Event) × (o ≡ Some e))
none_or_some None = inl refl
none_or_some (Some e) = inr (e, refl)

-- a test on a key that two keys share
carried : (P : Key → Bool) (a b : Key) (t : Bool) → same_key a b ≡ true → P a ≡ t → P b ≡ t
carried P a b t p q = ap P (sym (same_is a b p)) ∙ q

at_here : (e : Event) (es : List Event) (k : Key) → same_key (key_of e) k ≡ true → at k (e ∷ es) ≡ Some e
at_here e es k p = ap (λ b. cond b (Some e) (at k es)) p

at_there : (e : Event) (es : List Event) (k : Key) → same_key (key_of e) k ≡ false → at k (e ∷ es) ≡ at k es
at_there e es k p = ap (λ b. cond b (Some e) (at k es)) p

pub keep_yes : (P : Key → Bool) (e : Event) (es : List Event) → P (key_of e) ≡ true → keep P (e ∷ es) ≡ e ∷ keep P es
keep_yes P e es p = ap (λ b. cond b (e ∷ keep P es) (keep P es)) p

pub keep_no : (P : Key → Bool) (e : Event) (es : List Event) → P (key_of e) ≡ false → keep P (e ∷ es) ≡ keep P es
keep_no P e es p = ap (λ b. cond b (e ∷ keep P es) (keep P es)) p

pub if_yes : (b : Bool) (o : Option Event) → b ≡ true → (if b then o else None) ≡ o
if_yes b o p = ap (λ t. cond t o None) p

pub if_no : (b : Bool) (o : Option Event) → b ≡ false → (if b then o else None) ≡ None
if_no b o p = ap (λ t. cond t o None) p

if_none : (b : Bool) → ◌≡◌ {A = Option Event} None (if b then None else None)
if_none true = refl
if_none false = refl

-- what is kept, at a key
pub at_keep : (P : Key → Bool) (k : Key) (es : List Event) → at k (keep P es) ≡ (if P k then at k es else None)
at_keep P k [] = if_none (P k)
at_keep P k (e ∷ es) =
    let ih = at_keep P k es in
    elim (cases_Bool (same_key (key_of e) k)) [
      | inl p ↦ elim (cases_Bool (P (key_of e))) [
        | inl q ↦ ap (at k) (keep_yes P e es q) ∙ (at_here e (keep P es) k p ∙ sym (if_yes (P k) _ (carried P (key_of e) k true p q) ∙ at_here e es k p))
        | inr q ↦
            let no : P k ≡ false = carried P (key_of e) k false p q in
            ap (at k) (keep_no P e es q) ∙ (ih ∙ (if_no (P k) _ no ∙ sym (if_no (P k) _ no)))
      ]
      | inr p ↦
          let rest : (if P k then at k es else None) ≡ (if P k then at k (e ∷ es) else None) = ap (λ o. if P k then o else None) (sym (at_there e es k p)) in
          elim (cases_Bool (P (key_of e))) [
            | inl q ↦ ap (at k) (keep_yes P e es q) ∙ (at_there e (keep P es) k p ∙ (ih ∙ rest))
            | inr q ↦ ap (at k) (keep_no P e es q) ∙ (ih ∙ rest)
          ]
    ]

pub at_keep_yes : (P : Key → Bool) (k : Key) (es : List Event) → P k ≡ true → at k (keep P es) ≡ at k es
at_keep_yes P k es p = at_keep P k es ∙ if_yes (P k) (at k es) p

pub at_keep_no : (P : Key → Bool) (k : Key) (es : List Event) → P k ≡ false → at k (keep P es) ≡ None
at_keep_no P k es p = at_keep P k es ∙ if_no (P k) (at k es) p

pub at_key : (k : Key) (es : List Event) (e : Event) → at k es ≡ Some e → key_of e ≡ k
at_key k [] e h = absurd (none-some e h)
at_key k (x ∷ es) e h =
    elim (cases_Bool (same_key (key_of x) k)) [
      | inl p ↦ ap key_of (sym (same_Some x e (sym (at_here x es k p) ∙ h))) ∙ same_is (key_of x) k p
      | inr p ↦ at_key k es e (sym (at_there x es k p) ∙ h)
    ]

pub AllKeys_at : (P : Key → Type 0) (k : Key) (es : List Event) (e : Event) → AllKeys P es → at k es ≡ Some e → P k
AllKeys_at P k [] e all h = absurd (none-some e h)
AllKeys_at P k (x ∷ es) e all h =
    elim (cases_Bool (same_key (key_of x) k)) [
      | inl p ↦ subst P (same_is (key_of x) k p) all.0
      | inr p ↦ AllKeys_at P k es e all.1 (sym (at_there x es k p) ∙ h)
    ]

pub AllKeys_from_at : (P : Key → Type 0) (es : List Event) → ((k : Key) (e : Event) → at k es ≡ Some e → P k) → AllKeys P es
AllKeys_from_at P [] h = tt
AllKeys_from_at P (x ∷ es) h = (
  h (key_of x) x (at_here x es (key_of x) (same_refl (key_of x))),
  AllKeys_from_at P es (λ k e is. elim (cases_Bool (same_key (key_of x) k)) [ inl p ↦ h k x (at_here x es k p) | inr p ↦ h k e (at_there x es k p ∙ is) ]),
)

pub AllKeys_weaker : (P Q : Key → Type 0) → ((k : Key) → P k → Q k) → (es : List Event) → AllKeys P es → AllKeys Q es
AllKeys_weaker P Q h [] all = tt
AllKeys_weaker P Q h (e ∷ es) all = (h (key_of e) all.0, AllKeys_weaker P Q h es all.1)

pub AllKeys_keep : (P : Key → Type 0) (test : Key → Bool) (es : List Event) → AllKeys P es → AllKeys P (keep test es)
AllKeys_keep P test [] all = tt
AllKeys_keep P test (e ∷ es) all =
    elim (test (key_of e)) as (λ b. AllKeys P (cond b (e ∷ keep test es) (keep test es))) [ true ↦ (all.0, AllKeys_keep P test es all.1) | false ↦ AllKeys_keep P test es all.1 ]

-- each key that is kept passes the test
pub AllKeys_kept : (test : Key → Bool) (es : List Event) → AllKeys (λ k. test k ≡ true) (keep test es)
AllKeys_kept test [] = tt
AllKeys_kept test (e ∷ es) =
    elim (cases_Bool (test (key_of e))) [
      | inl p ↦ subst (AllKeys (λ k. test k ≡ true)) (sym (keep_yes test e es p)) (p, AllKeys_kept test es)
      | inr p ↦ subst (AllKeys (λ k. test k ≡ true)) (sym (keep_no test e es p)) (AllKeys_kept test es)
    ]

pub AllKeys_append : (P : Key → Type 0) (xs ys : List Event) → AllKeys P xs → AllKeys P ys → AllKeys P (xs ++ ys)
AllKeys_append P [] ys a b = b
AllKeys_append P (x ∷ xs) ys a b = (a.0, AllKeys_append P xs ys a.1 b)

pub IsRising_keep : (test : Key → Bool) (es : List Event) → IsRising es → IsRising (keep test es)
IsRising_keep test [] r = tt
IsRising_keep test (e ∷ es) r =
    elim (test (key_of e)) as (λ b. IsRising (cond b (e ∷ keep test es) (keep test es))) [
      | true ↦ (AllKeys_keep (λ k. key_of e is_below k) test es r.0, IsRising_keep test es r.1)
      | false ↦ IsRising_keep test es r.1
    ]

-- two lists, one before the other
pub IsRising_append : (c : Key) (xs ys : List Event) → IsRising xs → IsRising ys → AllKeys (λ k. k is_below c) xs → AllKeys (λ k. c is_upto k) ys → IsRising (xs ++ ys)
IsRising_append c [] ys r s a b = s
IsRising_append c (x ∷ xs) ys r s a b = (
  AllKeys_append (λ k. key_of x is_below k) xs ys r.0 (AllKeys_weaker (λ k. c is_upto k) (λ k. key_of x is_below k) (λ k. lt_le (key_of x) c k a.0) ys b),
  IsRising_append c xs ys r.1 s a.1 b,
)

pub at_absent : (k : Key) (es : List Event) → AllKeys (λ j. same_key j k ≡ false) es → at k es ≡ None
at_absent k [] a = refl
at_absent k (e ∷ es) a = at_there e es k a.0 ∙ at_absent k es a.1

pub at_before_all : (k : Key) (es : List Event) → AllKeys (λ j. k is_below j) es → at k es ≡ None
at_before_all k es a = at_absent k es (AllKeys_weaker (λ j. k is_below j) (λ j. same_key j k ≡ false) (λ j. above_not_same k j) es a)

pub at_after_all : (k : Key) (es : List Event) → AllKeys (λ j. j is_below k) es → at k es ≡ None
at_after_all k es a = at_absent k es (AllKeys_weaker (λ j. j is_below k) (λ j. same_key j k ≡ false) (λ j. below_not_same j k) es a)

pub at_append_left : (k : Key) (xs ys : List Event) → at k ys ≡ None → at k (xs ++ ys) ≡ at k xs
at_append_left k [] ys h = h
at_append_left k (x ∷ xs) ys h = ap (λ o. cond (same_key (key_of x) k) (Some x) o) (at_append_left k xs ys h)

pub at_append_right : (k : Key) (xs ys : List Event) → at k xs ≡ None → at k (xs ++ ys) ≡ at k ys
at_append_right k [] ys h = refl
at_append_right k (x ∷ xs) ys h =
    elim (cases_Bool (same_key (key_of x) k)) [
      | inl p ↦ absurd (none-some x (sym h ∙ at_here x xs k p))
      | inr p ↦ at_there x (xs ++ ys) k p ∙ at_append_right k xs ys (sym (at_there x xs k p) ∙ h)
    ]

-- two lists that rise and have the same events at each key are one
pub same_tables : (xs ys : List Event) → IsRising xs → IsRising ys → ((k : Key) → at k xs ≡ at k ys) → xs ≡ ys
same_tables [] [] r s h = refl
same_tables [] (y ∷ ys) r s h = absurd (none-some y (h (key_of y) ∙ at_here y ys (key_of y) (same_refl (key_of y))))
same_tables (x ∷ xs) [] r s h = absurd (none-some x (sym (h (key_of x)) ∙ at_here x xs (key_of x) (same_refl (key_of x))))
same_tables (x ∷ xs) (y ∷ ys) r s h =
    let here_x : at (key_of x) (y ∷ ys) ≡ Some x = sym (h (key_of x)) ∙ at_here x xs (key_of x) (same_refl (key_of x)) in
    let here_y : at (key_of y) (x ∷ xs) ≡ Some y = h (key_of y) ∙ at_here y ys (key_of y) (same_refl (key_of y)) in
    elim (cases_Bool (same_key (key_of y) (key_of x))) [
      | inl p ↦
          let e : y ≡ x = same_Some y x (sym (at_here y ys (key_of x) p) ∙ here_x) in
          let tails : (k : Key) → at k xs ≡ at k ys = λ k. tail k e (h k) in
          ap (λ z. z ∷ xs) (sym e) ∙ ap (λ l. y ∷ l) (same_tables xs ys r.1 s.1 tails)
      | inr p ↦
          let later_x : key_of y is_below key_of x = AllKeys_at (λ k. key_of y is_below k) (key_of x) ys x s.0 (sym (at_there y ys (key_of x) p) ∙ here_x) in
          let nq : same_key (key_of x) (key_of y) ≡ false = above_not_same (key_of y) (key_of x) later_x in
          let later_y : key_of x is_below key_of y = AllKeys_at (λ k. key_of x is_below k) (key_of y) xs y r.0 (sym (at_there x xs (key_of y) nq) ∙ here_y) in
          absurd (lt_not_le (key_of x) (key_of y) later_y (lt_to_le (key_of y) (key_of x) later_x))
    ]
  where
    tail : (k : Key) → y ≡ x → at k (x ∷ xs) ≡ at k (y ∷ ys) → at k xs ≡ at k ys
    tail k e hk =
        elim (cases_Bool (same_key (key_of x) k)) [
          | inl p ↦
              let is : key_of x ≡ k = same_is (key_of x) k p in
              let left : at k xs ≡ None = at_before_all k xs (subst (λ j. AllKeys (λ i. j is_below i) xs) is r.0) in
              let right : at k ys ≡ None = at_before_all k ys (subst (λ j. AllKeys (λ i. j is_below i) ys) (ap key_of e ∙ is) s.0) in
              left ∙ sym right
          | inr p ↦
              let q : same_key (key_of y) k ≡ false = ap (λ (z : Event). same_key (key_of z) k) e ∙ p in
              sym (at_there x xs k p) ∙ (hk ∙ at_there y ys k q)
        ]

-- filters
pub keep_agree : (P Q : Key → Bool) (es : List Event) → AllKeys (λ k. P k ≡ Q k) es → keep P es ≡ keep Q es
keep_agree P Q [] a = refl
keep_agree P Q (e ∷ es) a =
    ap (λ b. cond b (e ∷ keep P es) (keep P es)) a.0 ∙ ap (λ l. cond (Q (key_of e)) (e ∷ l) l) (keep_agree P Q es a.1)

pub all_keys : (P : Key → Type 0) → ((k : Key) → P k) → (es : List Event) → AllKeys P es
all_keys P h [] = tt
all_keys P h (e ∷ es) = (h (key_of e), all_keys P h es)

pub keep_same : (P Q : Key → Bool) → ((k : Key) → P k ≡ Q k) → (es : List Event) → keep P es ≡ keep Q es
keep_same P Q h es = keep_agree P Q es (all_keys (λ k. P k ≡ Q k) h es)

pub keep_keep : (P Q : Key → Bool) (es : List Event) → keep P (keep Q es) ≡ keep (λ k. Q k && P k) es
keep_keep P Q [] = refl
keep_keep P Q (e ∷ es) =
    elim (cases_Bool (Q (key_of e))) [
      | inl q ↦
          ap (keep P) (keep_yes Q e es q) ∙ (ap (λ l. cond (P (key_of e)) (e ∷ l) l) (keep_keep P Q es)
          ∙ ap (λ b. cond (b && P (key_of e)) (e ∷ keep (λ k. Q k && P k) es) (keep (λ k. Q k && P k) es)) (sym q))
      | inr q ↦
          ap (keep P) (keep_no Q e es q) ∙ (keep_keep P Q es
          ∙ ap (λ b. cond (b && P (key_of e)) (e ∷ keep (λ k. Q k && P k) es) (keep (λ k. Q k && P k) es)) (sym q))
    ]

and_swap : (a b : Bool) → (a && b) ≡ (b && a)
and_swap true true = refl
and_swap true false = refl
and_swap false true = refl
and_swap false false = refl

pub keep_swap : (P Q : Key → Bool) (es : List Event) → keep P (keep Q es) ≡ keep Q (keep P es)
keep_swap P Q es = keep_keep P Q es ∙ (keep_same (λ k. Q k && P k) (λ k. P k && Q k) (λ k. and_swap (Q k) (P k)) es ∙ sym (keep_keep Q P es))

pub keep_all : (P : Key → Bool) (es : List Event) → AllKeys (λ k. P k ≡ true) es → keep P es ≡ es
keep_all P [] a = refl
keep_all P (e ∷ es) a = keep_yes P e es a.0 ∙ ap (λ l. e ∷ l) (keep_all P es a.1)

pub keep_none : (P : Key → Bool) (es : List Event) → AllKeys (λ k. P k ≡ false) es → keep P es ≡ []
keep_none P [] a = refl
keep_none P (e ∷ es) a = keep_no P e es a.0 ∙ keep_none P es a.1

pub keep_append : (P : Key → Bool) (xs ys : List Event) → keep P (xs ++ ys) ≡ keep P xs ++ keep P ys
keep_append P xs ys = filter-append (λ e. P (key_of e)) xs ys

-- of two keys that cut a list the lower one counts
pub below_below : (a b : Key) (es : List Event) → a is_upto b → below a (below b es) ≡ below a es
below_below a b es h = keep_keep (λ j. is_before j a) (λ j. is_before j b) es ∙ keep_same (λ j. is_before j b && is_before j a) (λ j. is_before j a) (λ j. below_and j a b h) es
