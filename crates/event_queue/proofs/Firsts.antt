-- Nodes that are the first of their children, and a write to one node.
use Rattle.std.proofs.Common.{◌≡◌, ℕ, zero, suc, ◌+◌, ◌*◌, ◌<◌, ◌≤◌, true, false, List, refl, sym, ap, ◌∙◌, arith}
use Rattle.std.proofs.lemmas.Bool.{cases_lt}
use mathlib.Core.Logic.{⊎_elim}
use Rattle.event_queue.specs.declared.entry.Entry.{Entry}
use Rattle.event_queue.specs.Tournament.{IsFirstOf, IsTournament, IsTournamentBut, WasFirstOf, entry_at, parent, precedes}
use Rattle.event_queue.proofs.Order.{same_or, ne-less}
use Rattle.event_queue.proofs.Orders.{precedes_order, never_self, not_before_by}

-- ys is xs with v written at a position
pub record Written (xs ys : List Entry) (at : ℕ) (v : Entry) : Type 0 where
  pub here : entry_at ys at ≡ v
  pub others : (j : ℕ) → (j ≡ at → ⊥) → entry_at ys j ≡ entry_at xs j

pub not_before : (a b x y : Entry) → a ≡ x → b ≡ y → precedes x y ≡ false → precedes a b ≡ false
not_before a b x y ea eb h = ap (λ z. precedes z b) ea ∙ ap (λ z. precedes x z) eb ∙ h

module _ (xs ys : List Entry) (at : ℕ) (v : Entry) (w : Written xs ys at v) where
  -- a node that was neither written nor stands above what was
  pub first_still : (q : ℕ) → (q ≡ at → ⊥) → (q ≡ parent at → ⊥) → IsFirstOf xs q → IsFirstOf ys q
  first_still q nq np f =
      let apart : (j : ℕ) → parent j ≡ q → j ≡ at → ⊥ = λ j pj e. np (sym pj ∙ ap parent e) in
      record {
        child = f.child;
        is_child = f.is_child;
        same = w.others f.child (apart f.child f.is_child) ∙ f.same ∙ sym (w.others q nq);
        none_before = λ j pj. not_before _ _ _ _ (w.others j (apart j pj)) (w.others q nq) (f.none_before j pj);
      }

  -- the node above
  pub was_first : parent at < at → IsFirstOf xs (parent at) → WasFirstOf ys at (entry_at xs at)
  was_first less f =
      let up = w.others (parent at) (ne-less (parent at) at less) in
      record {
        child = f.child;
        is_child = f.is_child;
        same_old = λ e. ap (entry_at xs) (sym e) ∙ f.same ∙ sym up;
        same_other = λ ne. w.others f.child ne ∙ f.same ∙ sym up;
        none_before = λ j pj ne. not_before _ _ _ _ (w.others j ne) up (f.none_before j pj);
      }

  -- an entry below the inner nodes was written
  pub leaf_written : (e : ℕ) → IsTournament xs e → e ≤ at → at + 41 < 8 * e → IsTournamentBut ys e at (entry_at xs at)
  leaf_written e t below within = record {
    others = λ p root pe np. first_still p (λ z. omega (arith, z, pe, below)) np (t p root pe);
    over = λ low. was_first (omega arith) (t (parent at) (omega arith) (omega arith));
  }

  -- the node above `from` was written, and is the first of its children
  pub inner_written : (e from : ℕ) (old : Entry) → IsTournamentBut xs e from old → parent from ≡ at → at < e → IsFirstOf ys at → IsTournamentBut ys e at (entry_at xs at)
  inner_written e from old t up ae f = record {
    others = λ p root pe np. same_or p at (λ is. rw is f) (λ ne. first_still p ne np (t.others p root pe (λ z. ne (z ∙ up))));
    over = λ low. was_first (omega arith) (t.others (parent at) (omega arith) (omega arith) (λ z. ne-less (parent at) at (omega arith) (z ∙ up)));
  }

-- the entry that came is before the one above
pub first_new : (xs ys : List Entry) (at : ℕ) (old new : Entry) → WasFirstOf xs at old → entry_at xs at ≡ new → precedes new (entry_at xs (parent at)) ≡ true
    → Written xs ys (parent at) new → ((j : ℕ) → parent j ≡ parent at → j ≡ parent at → ⊥) → IsFirstOf ys (parent at)
first_new xs ys at old new f is before w apart = record {
  child = at;
  is_child = refl;
  same = w.others at (apart at refl) ∙ is ∙ sym w.here;
  none_before = λ j pj. not_before _ _ _ _ (w.others j (apart j pj)) w.here (same_or j at
      (λ e. not_before (entry_at xs j) new new new (ap (entry_at xs) e ∙ is) refl (never_self new))
      (λ ne. not_before_by (entry_at xs j) (entry_at xs (parent at)) new (f.none_before j pj ne) (precedes_order.one_way new (entry_at xs (parent at)) before)));
}

-- it isn't, and the one above is another child's
pub first_kept : (xs : List Entry) (at : ℕ) (old new : Entry) → WasFirstOf xs at old → entry_at xs at ≡ new → precedes new (entry_at xs (parent at)) ≡ false
    → ((entry_at xs (parent at)).offset ≡ old.offset → ⊥) → IsFirstOf xs (parent at)
first_kept xs at old new f is not other = record {
  child = f.child;
  is_child = f.is_child;
  same = f.same_other (λ e. other (ap (λ (x : Entry). x.offset) (sym (f.same_old e))));
  none_before = λ j pj. same_or j at
      (λ e. not_before (entry_at xs j) (entry_at xs (parent at)) new (entry_at xs (parent at)) (ap (entry_at xs) e ∙ is) refl not)
      (λ ne. f.none_before j pj ne);
}

-- the first of the children was looked for
pub first_found : (xs ys : List Entry) (up child : ℕ) → parent child ≡ up → ((j : ℕ) → parent j ≡ up → precedes (entry_at xs j) (entry_at xs child) ≡ false)
    → Written xs ys up (entry_at xs child) → ((j : ℕ) → parent j ≡ up → j ≡ up → ⊥) → IsFirstOf ys up
first_found xs ys up child is least w apart = record {
  child = child;
  is_child = is;
  same = w.others child (apart child is) ∙ sym w.here;
  none_before = λ j pj. not_before _ _ _ _ (w.others j (apart j pj)) w.here (least j pj);
}

-- at the root nothing is left above
pub at_root : (xs : List Entry) (e at : ℕ) (old : Entry) → IsTournamentBut xs e at old → at ≤ 6 → IsTournament xs e
at_root xs e at old t low p root pe = t.others p root pe (λ z. omega (arith, z, low, root))

-- the node above is in order too, and so all are
pub in_order : (xs : List Entry) (e at : ℕ) (old : Entry) → IsTournamentBut xs e at old → IsFirstOf xs (parent at) → IsTournament xs e
in_order xs e at old t f p root pe = same_or p (parent at) (λ z. rw z f) (λ ne. t.others p root pe ne)

-- nodes that are the same at each position
pub tournament_same : (xs ys : List Entry) (e : ℕ) → ((j : ℕ) → entry_at ys j ≡ entry_at xs j) → IsTournament xs e → IsTournament ys e
tournament_same xs ys e same t p root pe =
    let f = t p root pe in
    record {
      child = f.child;
      is_child = f.is_child;
      same = same f.child ∙ f.same ∙ sym (same p);
      none_before = λ j pj. not_before _ _ _ _ (same j) (same p) (f.none_before j pj);
    }

-- no node precedes the root
pub root_first : (xs : List Entry) (e : ℕ) → IsTournament xs e → (m j : ℕ) → j ≤ m → 6 ≤ j → j + 41 < 8 * e → precedes (entry_at xs j) (entry_at xs 6) ≡ false
root_first xs e t zero j jm root within = absurd (omega arith)
root_first xs e t (suc m) j jm root within = same_or j 6
    (λ z. rw z (never_self (entry_at xs 6)))
    (λ nz.
    let more : 6 < j = omega (arith, nz, root) in
    not_before_by (entry_at xs j) (entry_at xs (parent j)) (entry_at xs 6) ((t (parent j) (omega arith) (omega arith)).none_before j refl) (root_first xs e t m (parent j) (omega arith) (omega arith) (omega arith)))

-- each node has the entry of a leaf
pub leaf_of : (xs : List Entry) (e : ℕ) → IsTournament xs e → (m p : ℕ) → 8 * e ≤ p + m → 6 ≤ p → p + 41 < 8 * e → (j : ℕ) × (e ≤ j) × (j + 41 < 8 * e) × (entry_at xs j ≡ entry_at xs p)
leaf_of xs e t zero p far root within = absurd (omega arith)
leaf_of xs e t (suc m) p far root within = ⊎_elim
    (λ inner.
    let f = t p root inner in
    let is = f.is_child in
    let below = leaf_of xs e t m f.child (omega (arith, is, far, root)) (omega (arith, is, root)) (omega (arith, is, inner)) in
    (below.0, below.1, below.2, below.3 ∙ f.same))
    (λ leaf. (p, leaf, within, refl))
    (cases_lt p e)
