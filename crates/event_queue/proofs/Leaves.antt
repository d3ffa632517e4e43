-- The entries of a tournament as its leaves.
use Rattle.std.proofs.Common.{◌≡◌, ℕ, zero, suc, ◌+◌, ◌-◌, ◌*◌, ◌<◌, ◌≤◌, ◌^◌, ◌++◌, ◌∷◌, subst, List, [], length, replicate, set, refl, sym, ap, ◌∙◌, arith, slice_index_or, get_or-set_same, get_or-set_other, inl, inr}
use Rattle.std.proofs.lemmas.List.{same_lists, length-set, length-replicate, get_or-replicate}
use Rattle.std.proofs.lemmas.List.FromFn.{get_or-map-range_with_len, length-map-range_with_len}
use Rattle.std.proofs.lemmas.Bool.{cases_lt}
use mathlib.Core.Logic.{⊎_elim}
use Rattle.event_queue.specs.declared.entry.Entry.{Entry}
use Rattle.event_queue.specs.Tournament.{IsSound, IsTournament, IsTournamentBut, IsWinner, entry_at, leaves, nothing, parent}
use Rattle.event_queue.proofs.Order.{same_or}
use Rattle.event_queue.proofs.Firsts.{root_first, leaf_of, leaf_written, not_before, tournament_same}
use Rattle.event_queue.proofs.Orders.{never_self}

pub length-leaves : (xs : List Entry) (e n : ℕ) → length (leaves xs e n) ≡ n
length-leaves xs e n = length-map-range_with_len (λ k. entry_at xs (e + k)) 0 n

pub leaf_at : (xs : List Entry) (e n k : ℕ) (d : Entry) → k < n → slice_index_or (leaves xs e n) k d ≡ entry_at xs (e + k)
leaf_at xs e n k d kn = get_or-map-range_with_len (λ i. entry_at xs (e + i)) 0 n k k d kn (omega arith)

-- a leaf that is written
pub leaves_set : (xs ys : List Entry) (e n i : ℕ) (v : Entry) → i < n → entry_at ys (e + i) ≡ v → ((j : ℕ) → e ≤ j → (j ≡ e + i → ⊥) → entry_at ys j ≡ entry_at xs j)
    → leaves ys e n ≡ set (leaves xs e n) i v
leaves_set xs ys e n i v within here others = same_lists _ _ (length-leaves ys e n ∙ sym (length-leaves xs e n) ∙ sym (length-set (leaves xs e n) i v)) each
  where
    each : (k : ℕ) (d : Entry) → k < length (leaves ys e n) → slice_index_or (leaves ys e n) k d ≡ slice_index_or (set (leaves xs e n) i v) k d
    each k d l = leaf_at ys e n k d kn ∙ same_or k i
        (λ is. ap (λ j. entry_at ys (e + j)) is ∙ here ∙ sym (ap (λ j. slice_index_or (set (leaves xs e n) i v) j d) is ∙ get_or-set_same (leaves xs e n) i v d (omega (arith, within, length-leaves xs e n))))
        (λ ne. others (e + k) (omega arith) (λ z. ne (omega (arith, z))) ∙ sym (get_or-set_other (leaves xs e n) i k v d ne ∙ leaf_at xs e n k d kn))
      where
        kn : k < n
        kn = omega (arith, l, length-leaves ys e n)

-- the root is the winner
pub root_wins : (xs : List Entry) (room e n : ℕ) → IsSound xs room e n → IsWinner (leaves xs e n) (entry_at xs 6)
root_wins xs room e n s = record {
  among =
      let leaf = leaf_of xs e s.ordered (8 * e) 6 (omega arith) (omega arith) (omega (arith, s.root)) in
      ⊎_elim
      (λ low.
      let k = leaf.0 - e in
      inr (k, omega (arith, low, leaf.1, length-leaves xs e n), leaf_at xs e n k nothing (omega (arith, low, leaf.1)) ∙ ap (entry_at xs) (let z : e + k ≡ leaf.0 = omega (arith, leaf.1) in z) ∙ leaf.3))
      (λ high. inl (sym leaf.3 ∙ s.rest leaf.0 high))
      (cases_lt leaf.0 (e + n));
  none_before = λ k kl.
      let kn : k < n = omega (arith, kl, length-leaves xs e n) in
      not_before (entry_at (leaves xs e n) k) (entry_at xs 6) (entry_at xs (e + k)) (entry_at xs 6) (leaf_at xs e n k nothing kn) refl (root_first xs e s.ordered (e + k) (e + k) (omega arith) (omega (arith, s.root)) (omega (arith, s.enough, kn)));
}

-- a number that is within the view
pub in_view : (xs : List Entry) (e n k : ℕ) (seen : List Entry) → leaves xs e n ≡ seen → k < length seen → k < n
in_view xs e n k seen is kl = omega (arith, ap (λ (l : List Entry). length l) is, length-leaves xs e n, kl)

-- what is read at a number
pub view_at : (xs : List Entry) (e n k : ℕ) (seen : List Entry) → leaves xs e n ≡ seen → k < length seen → entry_at xs (e + k) ≡ entry_at seen k
view_at xs e n k seen is kl = sym (leaf_at xs e n k nothing (in_view xs e n k seen is kl)) ∙ ap (λ l. entry_at l k) is

-- what stands at the root wins
pub view_wins : (xs : List Entry) (room e n : ℕ) (seen : List Entry) (x : Entry) → IsSound xs room e n → leaves xs e n ≡ seen → x ≡ entry_at xs 6 → IsWinner seen x
view_wins xs room e n seen x s is read = subst (λ l. IsWinner l x) is (subst (λ y. IsWinner (leaves xs e n) y) (sym read) (root_wins xs room e n s))

-- no node is made
none_ordered : (e : ℕ) → IsTournament [] e
none_ordered e p root pe = record {
  child = 8 * p - 41;
  is_child = omega (arith, root);
  same = refl;
  none_before = λ j pj. never_self nothing;
}

pub none_sound : (xs : List Entry) (room e n : ℕ) → xs ≡ [] → 6 ≤ e → e ≤ 2 ^ 32 → n + 41 ≤ 7 * e → 8 * e ≤ room + 41 → IsSound xs room e n
none_sound xs room e n none root few enough room_for_all = rw none (record {
  root = root;
  few = few;
  enough = enough;
  room_for_all = room_for_all;
  made = omega (arith, root);
  ordered = none_ordered e;
  rest = λ j past. refl;
})

pub none_leaves : (xs : List Entry) (e n : ℕ) → xs ≡ [] → leaves xs e n ≡ replicate n nothing
none_leaves xs e n none = same_lists _ _ (length-leaves xs e n ∙ sym (length-replicate n nothing)) each
  where
    each : (k : ℕ) (d : Entry) → k < length (leaves xs e n) → slice_index_or (leaves xs e n) k d ≡ slice_index_or (replicate n nothing) k d
    each k d l =
        let kn : k < n = omega (arith, l, length-leaves xs e n) in
        leaf_at xs e n k d kn ∙ ap (λ l. entry_at l (e + k)) none ∙ sym (get_or-replicate n k nothing d kn)

-- a node that is made is nothing, which stood there before
pub still_nothing : (xs : List Entry) (j : ℕ) → entry_at (xs ++ nothing ∷ []) j ≡ entry_at xs j
still_nothing [] zero = refl
still_nothing [] (suc j) = refl
still_nothing (x ∷ xs) zero = refl
still_nothing (x ∷ xs) (suc j) = still_nothing xs j

-- an entry is written below the inner nodes, when all nodes are made
module _ (xs made ys : List Entry) (room e n k : ℕ) (new : Entry) (s : IsSound xs room e n) (same : (j : ℕ) → entry_at made j ≡ entry_at xs j) (full : length made + 41 ≡ 8 * e) (kn : k < n) (is : ys ≡ set made (e + k) new) where
  inside : e + k < length made
  inside = omega (arith, full, kn, s.enough)

  long : length ys + 41 ≡ 8 * e
  long = omega (arith, ap (λ (l : List Entry). length l) is, length-set made (e + k) new, full)

  ends : parent (length ys) ≡ e
  ends = omega (arith, long)

  pub leaf_here : entry_at ys (e + k) ≡ new
  leaf_here = ap (λ l. entry_at l (e + k)) is ∙ get_or-set_same made (e + k) new nothing inside

  leaf_others : (j : ℕ) → (j ≡ e + k → ⊥) → entry_at ys j ≡ entry_at made j
  leaf_others j ne = ap (λ l. entry_at l j) is ∙ get_or-set_other made (e + k) j new nothing ne

  pub leaf_ordered : (old : Entry) → old ≡ entry_at made (e + k) → IsTournamentBut ys (parent (length ys)) (e + k) old
  leaf_ordered old was =
      let made_ordered : IsTournament made e = tournament_same xs made e same s.ordered in
      let now = leaf_written made ys (e + k) new (record { here = leaf_here; others = leaf_others }) e made_ordered (omega arith) (omega (arith, inside, full)) in
      subst (λ m. IsTournamentBut ys m (e + k) old) (sym ends) (subst (λ o. IsTournamentBut ys e (e + k) o) (sym was) now)

  -- and the inner nodes are in order again
  module _ (zs : List Entry) (space : ℕ) (as_long : length zs ≡ length ys) (ordered : IsTournament zs (parent (length ys))) (still : (j : ℕ) → parent (length ys) ≤ j → entry_at zs j ≡ entry_at ys j) (fits : 8 * e ≤ space + 41) where
    leaf_still : (j : ℕ) → e ≤ j → (j ≡ e + k → ⊥) → entry_at zs j ≡ entry_at xs j
    leaf_still j below ne = still j (omega (arith, ends, below)) ∙ leaf_others j ne ∙ same j

    pub risen_sound : IsSound zs space e n
    risen_sound = record {
      root = s.root;
      few = s.few;
      enough = s.enough;
      room_for_all = fits;
      made = omega (arith, as_long, long);
      ordered = subst (λ m. IsTournament zs m) ends ordered;
      rest = λ j past. leaf_still j (omega (arith, past)) (λ z. omega (arith, z, past, kn)) ∙ s.rest j past;
    }

    pub risen_leaves : (seen : List Entry) → leaves xs e n ≡ seen → leaves zs e n ≡ set seen k new
    risen_leaves seen view =
        leaves_set xs zs e n k new kn (still (e + k) (omega (arith, ends)) ∙ leaf_here) leaf_still ∙ ap (λ l. set l k new) view
