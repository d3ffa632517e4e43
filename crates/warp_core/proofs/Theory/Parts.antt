-- What a step does to one region: it stays sound, and what it puts tells the others what has changed.
use Rattle.std.proofs.Common.{◌≡◌, ℕ, zero, suc, ◌<◌, ◌≤◌, Bool, true, false, ◌==◌, ◌&&◌, List, [], ◌∷◌, ◌++◌, Option, Some, None, inl, inr, refl, sym, ap, ◌∙◌, subst, arith, cond, append-nil}
use Rattle.std.specs.Prelude.{not}
use Rattle.std.proofs.lemmas.Bool.{both_ways, cases_Bool, and_parts, and_from, and_left, and_right, or_left, or_right}
use Rattle.std.proofs.lemmas.Bool.Decides.{nat_tests, eqb_tells}
use Rattle.std.specs.Option.{option_map_or}
use Rattle.std.proofs.lemmas.Option.{none-some, same_Some}
use Rattle.surf_kinds.specs.declared.event.Key.{Key}
use Rattle.surf_kinds.specs.declared.event.Event.{Event}
use Rattle.surf_kinds.specs.declared.site.SiteState.{SiteState}
use Rattle.border.specs.declared.op.Op.{Op}
use Rattle.border.specs.declared.op.Op.TheVariants.{Put}
use Rattle.surf_kinds.specs.Keys.{is_before, same_key, key_of, key_after, ◌is_below◌, ◌is_upto◌, at, keep, below, from, AllKeys, IsRising}
use Rattle.border.specs.Messages.{replay, replay_one, op_key, accepted_op}
use Rattle.warp_core.specs.Messages.{AreSent, partition_of}
use Rattle.plan.specs.History.{if_at}
use Rattle.warp_core.specs.World.{World, IsWorld, after_all, is_own, is_told_by, end_key}
use Rattle.warp_core.specs.Timelines.{due_at, IsLocal}
use Rattle.warp_core.specs.Parts.{Part, received_at, IsSound, IsNextEntry, HasNoEntry, with_entry, at_end, after_op, fire_puts, is_told_to_some, back_if_any, op_puts, after_take, take_puts}
use Rattle.surf_kinds.proofs.Order.{lt_le, le_lt, le_le, lt_to_le, le_refl, below_after}
use Rattle.surf_kinds.proofs.Tables.{keep_yes, keep_no, AllKeys_at, AllKeys_from_at, AllKeys_weaker, AllKeys_keep, AllKeys_kept, IsRising_keep, keep_agree, keep_keep, keep_append}
use Rattle.warp_core.proofs.Theory.Accepted.{accepted_from}
use Rattle.warp_core.proofs.Theory.Cuts.{at_below, below_all, AllKeys_from, below_replay_one}
use Rattle.warp_core.proofs.Theory.Locals.{goes_on, ends, cut, all_below}

pub if_at_some : (k : Key) (o : Option Event) (e : Event) → if_at k o ≡ Some e → o ≡ Some e
if_at_some k None e h = absurd (none-some e h)
if_at_some k (Some x) e h =
    elim (cases_Bool (same_key (key_of x) k)) [
      | inl p ↦ ap (λ (y : Event). Some y) (same_Some x e (sym (ap (λ b. cond b (Some x) None) p) ∙ h))
      | inr p ↦ absurd (none-some e (sym (ap (λ b. cond b (Some x) None) p) ∙ h))
    ]

-- an own event that is due is the next of its place
pub next_is : (w : World) (mine : Key → Bool) (ins : Key → Option Event) (sites : List SiteState) (e : Event) → mine (key_of e) ≡ true → due_at w mine ins sites (key_of e) ≡ Some e → w.next e.place.0 sites ≡ Some e
next_is w mine ins sites e m h = if_at_some (key_of e) _ e (sym (ap (λ b. cond b (if_at (key_of e) (w.next e.place.0 sites)) (ins (key_of e))) m) ∙ h)

-- where an event is in time its successor is at most the end
in_time_end : (w : World) (e : Event) → e.time ≤ w.until → key_after (key_of e) is_upto end_key w
in_time_end w e h = grind (arith, nat_tests)

-- the next entry applied
pub applied_sound : (w : World) (base : List SiteState) (floor : Key) (i : ℕ) (p : Part) (e : Event) → IsSound w base floor i p → IsNextEntry w base i p e → IsSound w base floor i (with_entry p e)
applied_sound w base floor i p e s n =
    record {
      low = lt_to_le floor (key_after (key_of e)) (le_lt floor (key_of e) (key_after (key_of e)) (le_le floor p.clock (key_of e) s.low n.later) (below_after (key_of e)));
      high = in_time_end w e n.in_time;
      local = goes_on w (is_own w i) base floor (received_at w p) p.clock p.timeline e s.low s.local n;
    }

pub ended_sound : (w : World) (base : List SiteState) (floor : Key) (i : ℕ) (p : Part) → IsSound w base floor i p → HasNoEntry w base i p → IsSound w base floor i (at_end w p)
ended_sound w base floor i p s n =
    record {
      low = le_le floor p.clock (end_key w) s.low s.high;
      high = le_refl (end_key w);
      local = ends w (is_own w i) base floor (received_at w p) p.clock p.timeline s.high s.local n;
    }

-- what another region is told of a timeline with one event more
told_no : (w : World) (i l : ℕ) (es : List Event) (e : Event) → is_told_by w i l (key_of e) ≡ false → keep (is_told_by w i l) es ≡ keep (is_told_by w i l) (es ++ e ∷ [])
told_no w i l es e h = sym (keep_append (is_told_by w i l) es (e ∷ []) ∙ (ap (λ t. keep (is_told_by w i l) es ++ t) (keep_no (is_told_by w i l) e [] h) ∙ append-nil (keep (is_told_by w i l) es)))

pub fired_told : (w : World) (base : List SiteState) (floor : Key) (i l : ℕ) (p : Part) (e : Event) → IsSound w base floor i p → IsNextEntry w base i p e → is_own w i (key_of e) ≡ true → replay (keep (is_told_by w i l) p.timeline) (fire_puts w.told e l) ≡ keep (is_told_by w i l) (with_entry p e).timeline
fired_told w base floor i l p e s n m =
    elim (cases_Bool (w.told l e.place.0)) [
      | inl t ↦
          let under : AllKeys (λ j. j is_below key_of e) p.timeline = AllKeys_weaker (λ j. j is_below p.clock) (λ j. j is_below key_of e) (λ j h. lt_le j p.clock (key_of e) h n.later) p.timeline (all_below w (is_own w i) base floor (received_at w p) p.clock p.timeline s.local) in
          ap (λ b. replay (keep (is_told_by w i l) p.timeline) (cond b (Put e ∷ []) [])) t
          ∙ (ap (λ xs. xs ++ e ∷ []) (below_all (key_of e) (keep (is_told_by w i l) p.timeline) (AllKeys_keep (λ j. j is_below key_of e) (is_told_by w i l) p.timeline under))
          ∙ sym (keep_append (is_told_by w i l) p.timeline (e ∷ []) ∙ ap (λ xs. keep (is_told_by w i l) p.timeline ++ xs) (keep_yes (is_told_by w i l) e [] (and_from (is_own w i (key_of e)) (w.told l e.place.0) m t))))
      | inr t ↦
          ap (λ b. replay (keep (is_told_by w i l) p.timeline) (cond b (Put e ∷ []) [])) t
          ∙ told_no w i l p.timeline e (and_right (is_own w i (key_of e)) (w.told l e.place.0) t)
    ]

pub passed_told : (w : World) (i l : ℕ) (p : Part) (e : Event) → is_own w i (key_of e) ≡ false → replay (keep (is_told_by w i l) p.timeline) [] ≡ keep (is_told_by w i l) (with_entry p e).timeline
passed_told w i l p e m = told_no w i l p.timeline e (and_left (is_own w i (key_of e)) (w.told l e.place.0) m)

pub fired_sent : (w : World) → IsWorld w → (base : List SiteState) (floor : Key) (i l : ℕ) (p : Part) (e : Event) → IsSound w base floor i p → IsNextEntry w base i p e → is_own w i (key_of e) ≡ true → AreSent w i l floor (fire_puts w.told e l)
fired_sent w laws base floor i l p e s n m =
    elim (cases_Bool (w.told l e.place.0)) [
      | inl t ↦
          let sites = after_all w base p.timeline in
          let is : w.next e.place.0 sites ≡ Some e = next_is w (is_own w i) (received_at w p) sites e m n.here in
          subst (λ b. AreSent w i l floor (cond b (Put e ∷ []) [])) (sym t) (
            (
              le_le floor p.clock (key_of e) s.low n.later,
              n.in_time,
              record { owned = m; told = t; fits = laws.fitting e.place.0 sites e is; early = laws.after_start e.place.0 sites e is; late = omega (arith, n.in_time, laws.short) },
            ),
            tt,
          )
      | inr t ↦ subst (λ b. AreSent w i l floor (cond b (Put e ∷ []) [])) (sym t) tt
    ]

-- what a stack has below a message's key stays
pub op_received : (w : World) (p : Part) (j : ℕ) (op : Op) (k : Key) → k is_below op_key op → received_at w p k ≡ received_at w (after_op p j op) k
op_received w p j op k h =
    elim (cases_Bool (w.owner k.place.0 == j)) [
      | inl q ↦
          let stack = p.stack (w.owner k.place.0) in
          sym (at_below (op_key op) k stack h) ∙ (ap (at k) (sym (below_replay_one (op_key op) stack op (le_refl (op_key op)))) ∙ (at_below (op_key op) k (replay_one stack op) h
          ∙ ap (λ b. at k (cond b (replay_one stack op) stack)) (sym q)))
      | inr q ↦ ap (λ b. at k (cond b (replay_one (p.stack (w.owner k.place.0)) op) (p.stack (w.owner k.place.0)))) (sym q)
    ]

pub op_sound : (w : World) (base : List SiteState) (floor : Key) (i j : ℕ) (p : Part) (op : Op) → floor is_upto op_key op → IsSound w base floor i p → IsSound w base floor i (after_op p j op)
op_sound w base floor i j p op low s =
    elim (cases_Bool (is_before (op_key op) p.clock)) [
      | inl h ↦ subst (λ b. IsSound w base floor i (result b)) (sym h)
          (record {
            low = low;
            high = le_le (op_key op) p.clock (end_key w) (lt_to_le (op_key op) p.clock h) s.high;
            local = cut w (is_own w i) base floor (received_at w p) (received_at w (after_op p j op)) p.clock (op_key op) p.timeline s.local (lt_to_le (op_key op) p.clock h) (op_received w p j op);
          })
      | inr h ↦ subst (λ b. IsSound w base floor i (result b)) (sym h)
          (record {
            low = s.low;
            high = s.high;
            local =
                subst (IsLocal w (is_own w i) base floor (received_at w (after_op p j op)) p.clock) (below_all p.clock p.timeline (all_below w (is_own w i) base floor (received_at w p) p.clock p.timeline s.local))
                (cut w (is_own w i) base floor (received_at w p) (received_at w (after_op p j op)) p.clock p.clock p.timeline s.local (le_refl p.clock) (λ k u. op_received w p j op k (lt_le k p.clock (op_key op) u h)));
          })
    ]
  where
    result : Bool → Part
    result b = record { timeline = cond b (below (op_key op) p.timeline) p.timeline; clock = cond b (op_key op) p.clock; stack = (after_op p j op).stack }

-- told to one region, so told to some
told_some_from : (w : World) (n l p : ℕ) → l < n → w.told l p ≡ true → is_told_to_some w.told n p ≡ true
told_some_from w zero l p h t = absurd (omega (arith, h))
told_some_from w (suc n) l p h t =
    elim (eqb_tells l n) [
      | inl q ↦ or_right (is_told_to_some w.told n p) (w.told n p) (ap (λ m. w.told m p) (sym q.1) ∙ t)
      | inr q ↦ or_left (is_told_to_some w.told n p) (w.told n p) (told_some_from w n l p (omega (arith, h, q.1)) t)
    ]

-- what holds of the keys that are kept holds of each key that passes
kept_only : (Q : Key → Type 0) (test : Key → Bool) (es : List Event) → AllKeys Q (keep test es) → AllKeys (λ k. test k ≡ true → Q k) es
kept_only Q test [] all = tt
kept_only Q test (e ∷ es) all =
    elim (cases_Bool (test (key_of e))) [
      | inl p ↦ let both = subst (AllKeys Q) (keep_yes test e es p) all in (λ _. both.0, kept_only Q test es both.1)
      | inr p ↦ (λ q. absurd (both_ways (test (key_of e)) p q), kept_only Q test es (subst (AllKeys Q) (keep_no test e es p) all))
    ]

-- a cut at one key or at another that comes later leaves the same of a list that has nothing between
cut_either : (test : Key → Bool) (a b : Key) (es : List Event) → a is_upto b → AllKeys (λ k. b is_upto k) (keep test (from a es)) → below b (keep test es) ≡ keep test (below a es)
cut_either test a b es h all =
    keep_keep (λ k. is_before k b) test es
    ∙ (keep_agree (λ k. test k && is_before k b) (λ k. is_before k a && test k) es
    (AllKeys_weaker (λ k. (not (is_before k a) && test k) ≡ true → b is_upto k) (λ k. (test k && is_before k b) ≡ (is_before k a && test k)) each es
    (kept_only (λ k. b is_upto k) (λ k. not (is_before k a) && test k) es (subst (AllKeys (λ k. b is_upto k)) (keep_keep test (λ k. not (is_before k a)) es) all)))
    ∙ sym (keep_keep test (λ k. is_before k a) es))
  where
    tables : (x y z : Bool) → (y ≡ true → z ≡ true) → ((not y && x) ≡ true → z ≡ false) → (x && z) ≡ (y && x)
    tables true true z p q = p refl
    tables true false z p q = q refl
    tables false true z p q = refl
    tables false false z p q = refl

    each : (k : Key) → ((not (is_before k a) && test k) ≡ true → b is_upto k) → (test k && is_before k b) ≡ (is_before k a && test k)
    each k imp = tables (test k) (is_before k a) (is_before k b) (λ l. lt_le k a b l h) imp

no_cut : (test : Key → Bool) (a : Key) (es : List Event) → keep test (from a es) ≡ [] → keep test es ≡ keep test (below a es)
no_cut test a es h =
    keep_agree test (λ k. is_before k a && test k) es
    (AllKeys_weaker (λ k. (not (is_before k a) && test k) ≡ true → ⊥) (λ k. test k ≡ (is_before k a && test k)) each es
    (kept_only (λ k. ⊥) (λ k. not (is_before k a) && test k) es (subst (AllKeys (λ k. ⊥)) (sym h ∙ keep_keep test (λ k. not (is_before k a)) es) tt)))
    ∙ sym (keep_keep test (λ k. is_before k a) es)
  where
    tables : (x y : Bool) → ((not y && x) ≡ true → ⊥) → x ≡ (y && x)
    tables true true q = refl
    tables true false q = absurd (q refl)
    tables false true q = refl
    tables false false q = refl

    each : (k : Key) → ((not (is_before k a) && test k) ≡ true → ⊥) → test k ≡ (is_before k a && test k)
    each k imp = tables (test k) (is_before k a) imp

-- the first of a list that rises comes before each
first_least : (x : Event) (es : List Event) → IsRising (x ∷ es) → AllKeys (λ k. key_of x is_upto k) (x ∷ es)
first_least x es r = (le_refl (key_of x), AllKeys_weaker (λ k. key_of x is_below k) (λ k. key_of x is_upto k) (λ k. lt_to_le (key_of x) k) es r.0)

-- a Back at a key takes back from a list what its own cut takes from it
back_takes : (test any : Key → Bool) (a : Key) (es : List Event) → IsRising es → ((k : Key) → test k ≡ true → any k ≡ true)
    → (xs ys : List Event) → keep test (from a es) ≡ xs → keep any (from a es) ≡ ys → replay (keep test es) (back_if_any xs ys) ≡ keep test (below a es)
back_takes test any a es r wider [] ys p q = no_cut test a es p
back_takes test any a es r wider (x ∷ xs) [] p q =
    let none : AllKeys (λ k. any k ≡ true → ⊥) (from a es) = kept_only (λ k. ⊥) any (from a es) (subst (AllKeys (λ k. ⊥)) (sym q) tt) in
    let some : AllKeys (λ k. ⊥) (keep test (from a es)) =
    AllKeys_from_at (λ k. ⊥) (keep test (from a es)) (λ k e is.
    AllKeys_at (λ k. any k ≡ true → ⊥) k (keep test (from a es)) e (AllKeys_keep (λ k. any k ≡ true → ⊥) test (from a es) none) is
    (wider k (AllKeys_at (λ k. test k ≡ true) k (keep test (from a es)) e (AllKeys_kept test (from a es)) is))) in
    absurd ((subst (AllKeys (λ k. ⊥)) p some).0)
back_takes test any a es r wider (x ∷ xs) (y ∷ ys) p q =
    let risen : IsRising (y ∷ ys) = subst IsRising q (IsRising_keep any (from a es) (IsRising_keep (λ j. not (is_before j a)) es r)) in
    let least : AllKeys (λ k. any k ≡ true → key_of y is_upto k) (from a es) = kept_only (λ k. key_of y is_upto k) any (from a es) (subst (AllKeys (λ k. key_of y is_upto k)) (sym q) (first_least y ys risen)) in
    let high : a is_upto key_of y = (subst (AllKeys (λ k. a is_upto k)) q (AllKeys_keep (λ k. a is_upto k) any (from a es) (AllKeys_from a es))).0 in
    let all : AllKeys (λ k. key_of y is_upto k) (keep test (from a es)) =
    AllKeys_from_at (λ k. key_of y is_upto k) (keep test (from a es)) (λ k e is.
    AllKeys_at (λ k. any k ≡ true → key_of y is_upto k) k (keep test (from a es)) e (AllKeys_keep (λ k. any k ≡ true → key_of y is_upto k) test (from a es) least) is
    (wider k (AllKeys_at (λ k. test k ≡ true) k (keep test (from a es)) e (AllKeys_kept test (from a es)) is))) in
    cut_either test a (key_of y) es high all

pub op_told : (w : World) (base : List SiteState) (floor : Key) (i j l : ℕ) (p : Part) (op : Op) → l < w.regions → IsSound w base floor i p → replay (keep (is_told_by w i l) p.timeline) (op_puts w i p op l) ≡ keep (is_told_by w i l) (after_op p j op).timeline
op_told w base floor i j l p op inside s =
    elim (cases_Bool (is_before (op_key op) p.clock)) [
      | inl h ↦ subst Says (sym h) (back_takes (is_told_by w i l) any (op_key op) p.timeline s.local.rising wider _ _ refl refl)
      | inr h ↦ subst Says (sym h) refl
    ]
  where
    any : Key → Bool
    any k = is_own w i k && is_told_to_some w.told w.regions k.place.0

    Says : Bool → Type 0
    Says b =
        replay (keep (is_told_by w i l) p.timeline) (cond b (back_if_any (keep (is_told_by w i l) (from (op_key op) p.timeline)) (keep (λ k. is_own w i k && is_told_to_some w.told w.regions k.place.0) (from (op_key op) p.timeline))) [])
        ≡ keep (is_told_by w i l) (cond b (below (op_key op) p.timeline) p.timeline)

    wider : (k : Key) → is_told_by w i l k ≡ true → (is_own w i k && is_told_to_some w.told w.regions k.place.0) ≡ true
    wider k t = let both = and_parts (is_own w i k) (w.told l k.place.0) t in and_from (is_own w i k) (is_told_to_some w.told w.regions k.place.0) both.0 (told_some_from w w.regions l k.place.0 inside both.1)

back_sent : (w : World) (i l : ℕ) (floor : Key) (xs ys : List Event) → AllKeys (λ k. floor is_upto k) ys → AreSent w i l floor (back_if_any xs ys)
back_sent w i l floor [] ys all = tt
back_sent w i l floor (x ∷ xs) [] all = tt
back_sent w i l floor (x ∷ xs) (y ∷ ys) all = (all.0, tt)

pub op_sent : (w : World) (base : List SiteState) (floor : Key) (i l : ℕ) (p : Part) (op : Op) → IsSound w base floor i p → AreSent w i l floor (op_puts w i p op l)
op_sent w base floor i l p op s =
    elim (cases_Bool (is_before (op_key op) p.clock)) [
      | inl h ↦ subst Says (sym h) (back_sent w i l floor _ _ (AllKeys_keep (λ k. floor is_upto k) (λ k. is_own w i k && is_told_to_some w.told w.regions k.place.0) (from (op_key op) p.timeline)
          (AllKeys_keep (λ k. floor is_upto k) (λ k. not (is_before k (op_key op))) p.timeline (AllKeys_weaker (λ k. (floor is_upto k) × (k is_below p.clock)) (λ k. floor is_upto k) (λ k a. a.0) p.timeline s.local.span))))
      | inr h ↦ subst Says (sym h) tt
    ]
  where
    Says : Bool → Type 0
    Says b = AreSent w i l floor (cond b (back_if_any (keep (is_told_by w i l) (from (op_key op) p.timeline)) (keep (λ k. is_own w i k && is_told_to_some w.told w.regions k.place.0) (from (op_key op) p.timeline))) [])

-- A part that takes a message: nothing where it is passed over, and else what it does with what the message is taken for.

pub take_sound : (w : World) (base : List SiteState) (floor : Key) (i j : ℕ) (p : Part) (op : Op) → IsSound w base floor i p → IsSound w base floor i (after_take w floor i p j op)
take_sound w base floor i j p op s = by (accepted_op (partition_of w) j i floor op) (accepted_from w j i floor op)
  where
    by : (o : Option Op) → ((a : Op) → o ≡ Some a → floor is_upto op_key a) → IsSound w base floor i (option_map_or (after_op p j) o p)
    by None h = s
    by (Some a) h = op_sound w base floor i j p a (h a refl) s

pub take_told : (w : World) (base : List SiteState) (floor : Key) (i j l : ℕ) (p : Part) (op : Op) → l < w.regions → IsSound w base floor i p → replay (keep (is_told_by w i l) p.timeline) (take_puts w floor i p j op l) ≡ keep (is_told_by w i l) (after_take w floor i p j op).timeline
take_told w base floor i j l p op inside s = by (accepted_op (partition_of w) j i floor op)
  where
    by : (o : Option Op) → replay (keep (is_told_by w i l) p.timeline) (option_map_or (λ a. op_puts w i p a l) o []) ≡ keep (is_told_by w i l) (option_map_or (after_op p j) o p).timeline
    by None = refl
    by (Some a) = op_told w base floor i j l p a inside s

pub take_sent : (w : World) (base : List SiteState) (floor : Key) (i j l : ℕ) (p : Part) (op : Op) → IsSound w base floor i p → AreSent w i l floor (take_puts w floor i p j op l)
take_sent w base floor i j l p op s = by (accepted_op (partition_of w) j i floor op)
  where
    by : (o : Option Op) → AreSent w i l floor (option_map_or (λ a. op_puts w i p a l) o [])
    by None = tt
    by (Some a) = op_sent w base floor i l p a s
