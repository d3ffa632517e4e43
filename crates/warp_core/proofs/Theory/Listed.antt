-- Lists of events by their members.
use Rattle.std.proofs.Common.{◌≡◌, ℕ, zero, suc, ◌<◌, ◌⊎◌, inl, inr, List, [], ◌∷◌, ◌++◌, length, sym, ap, ◌∙◌, subst, arith, Some, cond, get_or, slice_index_or}
use Rattle.std.specs.List.{Contains, flat_map}
use Rattle.std.proofs.lemmas.Bool.{cases_Bool}
use Rattle.std.proofs.lemmas.Option.{none-some, same_Some}
use Rattle.surf_kinds.specs.declared.event.Event.{Event}
use Rattle.surf_kinds.specs.declared.event.Key.{Key}
use Rattle.surf_kinds.specs.Keys.{key_of, same_key, at, AllKeys, IsRising, ◌is_below◌}
use Rattle.surf_kinds.proofs.Order.{same_refl, below_not_same}

abbrev pub In : Event → List Event → Type 0
In e [] = ⊥
In e (x ∷ xs) = (x ≡ e) ⊎ In e xs

find : (e : Event) (xs : List Event) (i : ℕ) → i < length xs → get_or xs i e ≡ e → In e xs
find e [] i h is = absurd (omega (arith, h))
find e (x ∷ xs) zero h is = inl is
find e (x ∷ xs) (suc i) h is = inr (find e xs i (omega (arith, h)) is)

pub contains_in : (e : Event) (xs : List Event) → Contains xs e → In e xs
contains_in e xs c = find e xs c.0 c.1 c.2

pub in_contains : (e : Event) (xs : List Event) → In e xs → Contains xs e
in_contains e [] h = absurd h
in_contains e (x ∷ xs) (inl is) = (0, omega (arith), is)
in_contains e (x ∷ xs) (inr h) = let c = in_contains e xs h in (suc c.0, omega (arith, c.1), c.2)

pub in_left : (e : Event) (xs ys : List Event) → In e xs → In e (xs ++ ys)
in_left e [] ys h = absurd h
in_left e (x ∷ xs) ys (inl is) = inl is
in_left e (x ∷ xs) ys (inr h) = inr (in_left e xs ys h)

pub in_right : (e : Event) (xs ys : List Event) → In e ys → In e (xs ++ ys)
in_right e [] ys h = h
in_right e (x ∷ xs) ys h = inr (in_right e xs ys h)

pub in_either : (e : Event) (xs ys : List Event) → In e (xs ++ ys) → In e xs ⊎ In e ys
in_either e [] ys h = inr h
in_either e (x ∷ xs) ys (inl is) = inl (inl is)
in_either e (x ∷ xs) ys (inr h) = elim (in_either e xs ys h) [ inl a ↦ inl (inr a) | inr b ↦ inr b ]

-- of lists
pub in_all : (e : Event) (ls : List (List Event)) → In e (flat_map (λ l. l) ls) → (i : ℕ) × (i < length ls) × In e (slice_index_or ls i [])
in_all e [] h = absurd h
in_all e (l ∷ ls) h =
    elim (in_either e l (flat_map (λ l. l) ls) h) [
      | inl a ↦ (0, omega (arith), a)
      | inr b ↦ let r = in_all e ls b in (suc r.0, omega (arith, r.1), r.2)
    ]

pub all_in : (e : Event) (ls : List (List Event)) (i : ℕ) → i < length ls → In e (slice_index_or ls i []) → In e (flat_map (λ l. l) ls)
all_in e [] i h m = absurd (omega (arith, h))
all_in e (l ∷ ls) zero h m = in_left e l (flat_map (λ l. l) ls) m
all_in e (l ∷ ls) (suc i) h m = in_right e l (flat_map (λ l. l) ls) (all_in e ls i (omega (arith, h)) m)

-- a table has its members
pub in_keys : (P : Key → Type 0) (e : Event) (xs : List Event) → AllKeys P xs → In e xs → P (key_of e)
in_keys P e [] a h = absurd h
in_keys P e (x ∷ xs) a (inl is) = subst (λ y. P (key_of y)) is a.0
in_keys P e (x ∷ xs) a (inr h) = in_keys P e xs a.1 h

pub at_member : (e : Event) (xs : List Event) → IsRising xs → In e xs → at (key_of e) xs ≡ Some e
at_member e [] r h = absurd h
at_member e (x ∷ xs) r (inl is) = ap (λ b. cond b (Some x) (at (key_of e) xs)) (ap (λ y. same_key (key_of x) (key_of y)) (sym is) ∙ same_refl (key_of x)) ∙ ap (λ y. Some y) is
at_member e (x ∷ xs) r (inr h) = ap (λ b. cond b (Some x) (at (key_of e) xs)) (below_not_same (key_of x) (key_of e) (in_keys (λ k. key_of x is_below k) e xs r.0 h)) ∙ at_member e xs r.1 h

pub member_at : (k : Key) (xs : List Event) (e : Event) → at k xs ≡ Some e → In e xs
member_at k [] e h = absurd (none-some e h)
member_at k (x ∷ xs) e h =
    elim (cases_Bool (same_key (key_of x) k)) [
      | inl p ↦ inl (same_Some x e (sym (ap (λ b. cond b (Some x) (at k xs)) p) ∙ h))
      | inr p ↦ inr (member_at k xs e (sym (ap (λ b. cond b (Some x) (at k xs)) p) ∙ h))
    ]
