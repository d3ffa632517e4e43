-- The order of entries.
use Rattle.std.proofs.Common.{eqb, ◌&&◌, ◌≡◌, ℕ, ◌+◌, ◌<◌, ◌≤◌, List, Bool, true, false, ap, arith, refl}
use Rattle.std.specs.Cmp.{IsStrictWeakOrder}
use Rattle.std.proofs.lemmas.Bool.Decides.{nat_tests}
use Rattle.surf_kinds.specs.Keys.{is_earlier, key_of}
use Rattle.surf_kinds.specs.declared.event.Key.{Key}
use Rattle.surf_kinds.specs.declared.event.Event.{Event}
use Rattle.surf_kinds.proofs.Order.{lt_to_le, le_le, upto_both}
use Rattle.event_queue.specs.declared.entry.Entry.{Entry}
use Rattle.event_queue.specs.Tournament.{precedes, offset_key, event_of, entry_at, nothing}
use Rattle.std.proofs.lemmas.Bool.{and_parts, cases_lt, eqb-true}
use mathlib.Core.Logic.{⊎_elim}
use Rattle.event_queue.proofs.Order.{same_or}

pub precedes_order : IsStrictWeakOrder precedes
precedes_order = record {
  one_way = λ a b h. lt_to_le (offset_key a) (offset_key b) h;
  chain = λ a b c h k. le_le (offset_key c) (offset_key b) (offset_key a) k h;
}

-- an event's entry comes before nothing
pub before_nothing : (e : Entry) → e.time < 18446744073709551616 → e.offset < 4294967295 → precedes e nothing ≡ true
before_nothing e t o = grind (arith, nat_tests)

-- the order of entries is that of their events
pub is_earlier-event_of : (first : ℕ) (a b : Entry) → is_earlier (event_of first a) (event_of first b) ≡ precedes a b
is_earlier-event_of first a b = grind (arith, nat_tests)

-- neither is before the other: they are at one place
pub same_place : (e f : Event) → is_earlier e f ≡ false → is_earlier f e ≡ false → e.place.0 ≡ f.place.0
same_place e f h k = ap (λ (j : Key). j.place.0) (upto_both (key_of e) (key_of f) k h)

pub never_self : (x : Entry) → precedes x x ≡ false
never_self x = go (precedes x x) refl
  where
    go : (v : Bool) → precedes x x ≡ v → precedes x x ≡ false
    go true e = precedes_order.one_way x x e
    go false e = e

-- what doesn't precede the second, where the third precedes that or is it, doesn't precede the third
pub not_before_by : (a b c : Entry) → precedes a b ≡ false → precedes b c ≡ false → precedes a c ≡ false
not_before_by a b c p q = precedes_order.chain a b c p q

-- the lesser of two of the lesser of two is the first of four
pub first_of_four_by : (h : List Entry) (f l r b : ℕ)
    → precedes (entry_at h f) (entry_at h l) ≡ false → precedes (entry_at h (f + 1)) (entry_at h l) ≡ false
    → precedes (entry_at h (f + 2)) (entry_at h r) ≡ false → precedes (entry_at h (f + 3)) (entry_at h r) ≡ false
    → precedes (entry_at h l) (entry_at h b) ≡ false → precedes (entry_at h r) (entry_at h b) ≡ false
    → (k : ℕ) → f ≤ k → k < f + 4 → precedes (entry_at h k) (entry_at h b) ≡ false
first_of_four_by h f l r b p0 p1 p2 p3 pl pr k from to =
    same_or k f (λ e. rw e (not_before_by (entry_at h f) (entry_at h l) (entry_at h b) p0 pl))
    (λ n0. same_or k (f + 1) (λ e. rw e (not_before_by (entry_at h (f + 1)) (entry_at h l) (entry_at h b) p1 pl))
    (λ n1. same_or k (f + 2) (λ e. rw e (not_before_by (entry_at h (f + 2)) (entry_at h r) (entry_at h b) p2 pr))
    (λ n2. let e : k ≡ f + 3 = omega (arith, n0, n1, n2, from, to) in rw e (not_before_by (entry_at h (f + 3)) (entry_at h r) (entry_at h b) p3 pr))))

-- the lesser of the first of either four is the first of eight
pub first_of_eight_by : (h : List Entry) (f l r b : ℕ)
    → ((k : ℕ) → f ≤ k → k < f + 4 → precedes (entry_at h k) (entry_at h l) ≡ false)
    → ((k : ℕ) → f + 4 ≤ k → k < f + 4 + 4 → precedes (entry_at h k) (entry_at h r) ≡ false)
    → precedes (entry_at h l) (entry_at h b) ≡ false → precedes (entry_at h r) (entry_at h b) ≡ false
    → (k : ℕ) → f ≤ k → k < f + 8 → precedes (entry_at h k) (entry_at h b) ≡ false
first_of_eight_by h f l r b low high pl pr k from to = ⊎_elim
    (λ c. not_before_by (entry_at h k) (entry_at h l) (entry_at h b) (low k from c) pl)
    (λ c. not_before_by (entry_at h k) (entry_at h r) (entry_at h b) (high k c (omega (arith, to))) pr)
    (cases_lt k (f + 4))

entry_from : (t t' o o' c c' : ℕ) → t ≡ t' → o ≡ o' → c ≡ c' → ◌≡◌ {A = Entry} (record { time = t; offset = o; channel = c }) (record { time = t'; offset = o'; channel = c' })
entry_from t t' o o' c c' et eo ec = rw (et, eo, ec) refl

-- what the comparison of entries tells
pub same_entry : (a b : Entry) → (eqb a.time b.time && (eqb a.offset b.offset && eqb a.channel b.channel)) ≡ true → a ≡ b
same_entry a b h =
    let p = and_parts (eqb a.time b.time) (eqb a.offset b.offset && eqb a.channel b.channel) h in
    let q = and_parts (eqb a.offset b.offset) (eqb a.channel b.channel) p.1 in
    entry_from a.time b.time a.offset b.offset a.channel b.channel (eqb-true a.time b.time p.0) (eqb-true a.offset b.offset q.0) (eqb-true a.channel b.channel q.1)
