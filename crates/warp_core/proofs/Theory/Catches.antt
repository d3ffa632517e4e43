-- The regions behind a key catch up with it: what a step and a Take keep meanwhile, and that two passes do.
use Rattle.std.proofs.Common.{◌≡◌, ℕ, ◌+◌, ◌<◌, Bool, true, false, ◌==◌, ◌&&◌, List, [], ◌∷◌, ◌++◌, Option, Some, None, inl, inr, refl, sym, ap, ◌∙◌, subst, arith, cond}
use Rattle.std.specs.Prelude.{not}
use Rattle.std.proofs.lemmas.Bool.{cases_Bool, and_parts, eqb-true}
use Rattle.std.proofs.lemmas.Bool.Decides.{eqb_tells}
use Rattle.std.proofs.lemmas.Option.{none-some}
use Rattle.surf_kinds.specs.declared.event.Key.{Key}
use Rattle.surf_kinds.specs.declared.event.Event.{Event}
use Rattle.surf_kinds.specs.declared.site.SiteState.{SiteState}
use Rattle.border.specs.declared.op.Op.{Op}
use Rattle.border.specs.declared.op.Op.TheVariants.{Put}
use Rattle.std.specs.Option.{option_map_or}
use Rattle.surf_kinds.specs.Keys.{is_before, key_of, key_after, keep, below, from, AllKeys, ◌is_below◌, ◌is_upto◌}
use Rattle.border.specs.Messages.{op_key, accepted_op}
use Rattle.plan.specs.History.{if_at}
use Rattle.warp_core.specs.World.{World, IsWorld, is_own, is_told_by, after_all, end_key}
use Rattle.warp_core.specs.Messages.{partition_of}
use Rattle.warp_core.specs.Timelines.{due_at}
use Rattle.warp_core.specs.Parts.{Part, IsNextEntry, HasNoEntry, received_at, with_entry, at_end, after_op, after_take, fire_puts, is_told_to_some, back_if_any, op_puts, take_puts}
use Rattle.warp_core.specs.Cores.{Core, base_of}
use Rattle.warp_core.specs.Steps.{with_part, with_channel}
use Rattle.warp_core.specs.Settling.{AllOps, IsQuietBelow, IsCatching, ArePast}
use Rattle.warp_core.specs.SettlingLoops.{AreAbove}
use Rattle.surf_kinds.proofs.Order.{lt_le, le_lt, le_le, lt_to_le, lt_not_le, key_cases, upto_both, below_after}
use Rattle.surf_kinds.proofs.Tables.{AllKeys_weaker, AllKeys_keep, AllKeys_kept, keep_none, all_keys}
use Rattle.warp_core.proofs.Theory.Accepted.{accepted_upto}
use Rattle.warp_core.proofs.Theory.Cuts.{AllKeys_from}
use Rattle.warp_core.proofs.Theory.Parts.{op_received}

pub ops_append : (P : Key → Type 0) (xs ys : List Op) → AllOps P xs → AllOps P ys → AllOps P (xs ++ ys)
ops_append P [] ys p q = q
ops_append P (x ∷ xs) ys p q = (p.0, ops_append P xs ys p.1 q)

pub ops_weaker : (P Q : Key → Type 0) → ((k : Key) → P k → Q k) → (ops : List Op) → AllOps P ops → AllOps Q ops
ops_weaker P Q f [] p = tt
ops_weaker P Q f (x ∷ xs) p = (f (op_key x) p.0, ops_weaker P Q f xs p.1)

-- the next entry isn't below the key
pub next_late : (w : World) (base : List SiteState) (i : ℕ) (p : Part) (m : Key) (e : Event) → IsQuietBelow w base i p m → IsNextEntry w base i p e → m is_upto key_of e
next_late w base i p m e q n =
    elim (key_cases (key_of e) m) [
      | inl u ↦ absurd (none-some e (sym (q (key_of e) n.later u) ∙ n.here))
      | inr h ↦ h
    ]

-- where there is a next entry at or after the key, or none at all, nothing is left below the key
pub quiet_next : (w : World) (base : List SiteState) (i : ℕ) (p : Part) (m : Key) (e : Event) → IsNextEntry w base i p e → m is_upto key_of e → IsQuietBelow w base i p m
quiet_next w base i p m e n h k c u = n.first k c (lt_le k m (key_of e) u h)

pub quiet_none : (w : World) (base : List SiteState) (i : ℕ) (p : Part) (m : Key) → HasNoEntry w base i p → m is_upto end_key w → IsQuietBelow w base i p m
quiet_none w base i p m n h k c u = n k c (lt_le k m (end_key w) u h)

-- a clock at or past the key: nothing to show
quiet_past : (w : World) (base : List SiteState) (i : ℕ) (p : Part) (m : Key) → m is_upto p.clock → IsQuietBelow w base i p m
quiet_past w base i p m h k c u = absurd (lt_not_le k m u (le_le m p.clock k h c))

-- a step goes past the key
pub applied_past : (w : World) (base : List SiteState) (i : ℕ) (p : Part) (m : Key) (e : Event) → IsQuietBelow w base i p m → IsNextEntry w base i p e → m is_below (with_entry p e).clock
applied_past w base i p m e q n = le_lt m (key_of e) (key_after (key_of e)) (next_late w base i p m e q n) (below_after (key_of e))

pub applied_quiet : (w : World) (base : List SiteState) (i : ℕ) (p : Part) (m : Key) (e : Event) → IsQuietBelow w base i p m → IsNextEntry w base i p e → IsQuietBelow w base i (with_entry p e) m
applied_quiet w base i p m e q n = quiet_past w base i (with_entry p e) m (lt_to_le m (key_after (key_of e)) (applied_past w base i p m e q n))

-- a Take with a key from m on leaves it so, and moves no clock below m
pub took_upto : (j : ℕ) (p : Part) (op : Op) (m : Key) → m is_upto op_key op → m is_upto p.clock → m is_upto (after_op p j op).clock
took_upto j p op m h c = pick (is_before (op_key op) p.clock)
  where
    pick : (t : Bool) → m is_upto cond t (op_key op) p.clock
    pick true = h
    pick false = c

pub took_past : (j : ℕ) (p : Part) (op : Op) (m : Key) → m is_below op_key op → m is_below p.clock → m is_below (after_op p j op).clock
took_past j p op m h c = pick (is_before (op_key op) p.clock)
  where
    pick : (t : Bool) → m is_below cond t (op_key op) p.clock
    pick true = h
    pick false = c

pub took_quiet : (w : World) (base : List SiteState) (i j : ℕ) (p : Part) (op : Op) (m : Key) → m is_upto op_key op → IsQuietBelow w base i p m → IsQuietBelow w base i (after_op p j op) m
took_quiet w base i j p op m h q =
    elim (key_cases p.clock m) [
      | inr past ↦ quiet_past w base i (after_op p j op) m (took_upto j p op m h past)
      | inl behind ↦
          let still : is_before (op_key op) p.clock ≡ false = lt_to_le p.clock (op_key op) (lt_le p.clock m (op_key op) behind h) in
          λ k c u.
          let same : received_at w p k ≡ received_at w (after_op p j op) k = op_received w p j op k (lt_le k m (op_key op) u h) in
          let before : p.clock is_upto k = subst (λ t. cond t (op_key op) p.clock is_upto k) still c in
          ap (λ t. due_at w (is_own w i) (received_at w (after_op p j op)) (after_all w base (cond t (below (op_key op) p.timeline) p.timeline)) k) still
          ∙ (ap (λ o. cond (is_own w i k) (if_at k (w.next k.place.0 (after_all w base p.timeline))) o) (sym same) ∙ q k before u)
    ]

-- what a region puts has a key of its is_own; of a Back also one from the op's key on
pub back_keys : (P : Key → Type 0) (xs ys : List Event) → AllKeys P ys → AllOps P (back_if_any xs ys)
back_keys P [] ys all = tt
back_keys P (x ∷ xs) [] all = tt
back_keys P (x ∷ xs) (y ∷ ys) all = (all.0, tt)

pub both_keys : (P Q : Key → Type 0) (es : List Event) → AllKeys P es → AllKeys Q es → AllKeys (λ k. P k × Q k) es
both_keys P Q [] p q = tt
both_keys P Q (e ∷ es) p q = ((p.0, q.0), both_keys P Q es p.1 q.1)

pub back_own : (w : World) (i l : ℕ) (p : Part) (op : Op) → AllOps (λ k. (is_own w i k ≡ true) × (op_key op is_upto k)) (op_puts w i p op l)
back_own w i l p op =
    pick (is_before (op_key op) p.clock)
  where
    any : Key → Bool
    any k = is_own w i k && is_told_to_some w.told w.regions k.place.0

    pick : (t : Bool) → AllOps (λ k. (is_own w i k ≡ true) × (op_key op is_upto k)) (cond t (back_if_any (keep (is_told_by w i l) (from (op_key op) p.timeline)) (keep (λ k. is_own w i k && is_told_to_some w.told w.regions k.place.0) (from (op_key op) p.timeline))) [])
    pick false = tt
    pick true =
        back_keys (λ k. (is_own w i k ≡ true) × (op_key op is_upto k)) (keep (is_told_by w i l) (from (op_key op) p.timeline)) (keep any (from (op_key op) p.timeline))
        (both_keys (λ k. is_own w i k ≡ true) (λ k. op_key op is_upto k) (keep any (from (op_key op) p.timeline))
        (AllKeys_weaker (λ k. any k ≡ true) (λ k. is_own w i k ≡ true) (λ k h. (and_parts (is_own w i k) (is_told_to_some w.told w.regions k.place.0) h).0) (keep any (from (op_key op) p.timeline)) (AllKeys_kept any (from (op_key op) p.timeline)))
        (AllKeys_keep (λ k. op_key op is_upto k) any (from (op_key op) p.timeline) (AllKeys_from (op_key op) p.timeline)))

pub fires_own : (w : World) (l : ℕ) (e : Event) (P : Key → Type 0) → P (key_of e) → AllOps P (fire_puts w.told e l)
fires_own w l e P h = pick (w.told l e.place.0)
  where
    pick : (t : Bool) → AllOps P (cond t (Put e ∷ []) [])
    pick true = (h, tt)
    pick false = tt

-- nothing to itself
pub fires_itself : (w : World) → IsWorld w → (i : ℕ) (e : Event) → is_own w i (key_of e) ≡ true → fire_puts w.told e i ≡ []
fires_itself w laws i e m =
    let no : w.told i e.place.0 ≡ false = subst (λ n. w.told n e.place.0 ≡ false) (eqb-true (w.owner e.place.0) i m) (laws.not_itself e.place.0) in
    ap (λ t. cond t (Put e ∷ []) []) no

pub back_itself : (w : World) → IsWorld w → (i : ℕ) (p : Part) (op : Op) → op_puts w i p op i ≡ []
back_itself w laws i p op =
    let none : keep (is_told_by w i i) (from (op_key op) p.timeline) ≡ [] = keep_none (is_told_by w i i) (from (op_key op) p.timeline) (all_keys (λ k. is_told_by w i i k ≡ false) no (from (op_key op) p.timeline)) in
    elim (cases_Bool (is_before (op_key op) p.clock)) [
      | inr h ↦ ap (λ t. cond t (back_if_any (keep (is_told_by w i i) (from (op_key op) p.timeline)) (keep (λ k. is_own w i k && is_told_to_some w.told w.regions k.place.0) (from (op_key op) p.timeline))) []) h
      | inl h ↦
          ap (λ t. cond t (back_if_any (keep (is_told_by w i i) (from (op_key op) p.timeline)) (keep (λ k. is_own w i k && is_told_to_some w.told w.regions k.place.0) (from (op_key op) p.timeline))) []) h
          ∙ ap (λ xs. back_if_any xs (keep (λ k. is_own w i k && is_told_to_some w.told w.regions k.place.0) (from (op_key op) p.timeline))) none
    ]
  where
    no : (k : Key) → is_told_by w i i k ≡ false
    no k =
        elim (cases_Bool (is_own w i k)) [
          | inl q ↦ ap (λ b. b && w.told i k.place.0) q ∙ subst (λ n. w.told n k.place.0 ≡ false) (eqb-true (w.owner k.place.0) i q) (laws.not_itself k.place.0)
          | inr q ↦ ap (λ b. b && w.told i k.place.0) q
        ]

-- The same of a message, whatever it is taken for: that has the message's key or a later one.

pub take_upto : (w : World) (floor : Key) (i j : ℕ) (p : Part) (op : Op) (m : Key) → m is_upto op_key op → m is_upto p.clock → m is_upto (after_take w floor i p j op).clock
take_upto w floor i j p op m h c = by (accepted_op (partition_of w) j i floor op) (accepted_upto w j i floor op)
  where
    by : (o : Option Op) → ((a : Op) → o ≡ Some a → op_key op is_upto op_key a) → m is_upto (option_map_or (after_op p j) o p).clock
    by None up = c
    by (Some a) up = took_upto j p a m (le_le m (op_key op) (op_key a) h (up a refl)) c

pub takes_past : (w : World) (floor : Key) (i j : ℕ) (p : Part) (op : Op) (m : Key) → m is_below op_key op → m is_below p.clock → m is_below (after_take w floor i p j op).clock
takes_past w floor i j p op m h c = by (accepted_op (partition_of w) j i floor op) (accepted_upto w j i floor op)
  where
    by : (o : Option Op) → ((a : Op) → o ≡ Some a → op_key op is_upto op_key a) → m is_below (option_map_or (after_op p j) o p).clock
    by None up = c
    by (Some a) up = took_past j p a m (lt_le m (op_key op) (op_key a) h (up a refl)) c

pub take_quiet : (w : World) (base : List SiteState) (floor : Key) (i j : ℕ) (p : Part) (op : Op) (m : Key) → m is_upto op_key op → IsQuietBelow w base i p m → IsQuietBelow w base i (after_take w floor i p j op) m
take_quiet w base floor i j p op m h q = by (accepted_op (partition_of w) j i floor op) (accepted_upto w j i floor op)
  where
    by : (o : Option Op) → ((a : Op) → o ≡ Some a → op_key op is_upto op_key a) → IsQuietBelow w base i (option_map_or (after_op p j) o p) m
    by None up = q
    by (Some a) up = took_quiet w base i j p a m (le_le m (op_key op) (op_key a) h (up a refl)) q

pub take_own : (w : World) (floor : Key) (i j l : ℕ) (p : Part) (op : Op) → AllOps (λ k. (is_own w i k ≡ true) × (op_key op is_upto k)) (take_puts w floor i p j op l)
take_own w floor i j l p op = by (accepted_op (partition_of w) j i floor op) (accepted_upto w j i floor op)
  where
    by : (o : Option Op) → ((a : Op) → o ≡ Some a → op_key op is_upto op_key a) → AllOps (λ k. (is_own w i k ≡ true) × (op_key op is_upto k)) (option_map_or (λ a. op_puts w i p a l) o [])
    by None up = tt
    by (Some a) up =
        ops_weaker (λ k. (is_own w i k ≡ true) × (op_key a is_upto k)) (λ k. (is_own w i k ≡ true) × (op_key op is_upto k))
        (λ k h. (h.0, le_le (op_key op) (op_key a) k (up a refl) h.1)) (op_puts w i p a l) (back_own w i l p a)

pub take_itself : (w : World) → IsWorld w → (floor : Key) (i j : ℕ) (p : Part) (op : Op) → take_puts w floor i p j op i ≡ []
take_itself w laws floor i j p op = by (accepted_op (partition_of w) j i floor op)
  where
    by : (o : Option Op) → option_map_or (λ a. op_puts w i p a i) o [] ≡ []
    by None = refl
    by (Some a) = back_itself w laws i p a

no-cons : {X : Type 0} (x : X) (xs : List X) → ◌≡◌ {A = List X} [] (x ∷ xs) → ⊥
no-cons x xs h = absurd (omega (arith, ap Rattle.std.specs.Prelude.length h))

-- a region with a new part, and what it puts
pub moved_catches : (w : World) (c : Core) (m : Key) (i : ℕ) (p : Part) (puts : ℕ → List Op) → IsCatching w c m → i < w.regions
    → IsQuietBelow w (base_of w c) i p m → ((l : ℕ) → AllOps (λ k. (is_own w i k ≡ true) × (m is_upto k)) (puts l)) → puts i ≡ [] → IsCatching w (with_part c i p puts) m
moved_catches w c m i p puts k inside quiet own_puts itself =
    record {
      quiet = λ n h. elim (eqb_tells n i) [
        | inl q ↦ subst (λ t. IsQuietBelow w (base_of w c) n (cond t p (c.part n)) m) (sym q.0) (subst (λ x. IsQuietBelow w (base_of w c) x p m) (sym q.1) quiet)
        | inr q ↦ subst (λ t. IsQuietBelow w (base_of w c) n (cond t p (c.part n)) m) (sym q.0) (k.quiet n h)
      ];
      late = λ a b x y. elim (eqb_tells a i) [
        | inl q ↦ subst (λ t. AllOps (λ k. (is_own w a k ≡ true) × (m is_upto k)) (cond t (c.channel a b ++ puts b) (c.channel a b))) (sym q.0)
            (ops_append (λ k. (is_own w a k ≡ true) × (m is_upto k)) (c.channel a b) (puts b) (k.late a b x y) (subst (λ n. AllOps (λ k. (is_own w n k ≡ true) × (m is_upto k)) (puts b)) (sym q.1) (own_puts b)))
        | inr q ↦ subst (λ t. AllOps (λ k. (is_own w a k ≡ true) × (m is_upto k)) (cond t (c.channel a b ++ puts b) (c.channel a b))) (sym q.0) (k.late a b x y)
      ];
      apart = λ n h. elim (eqb_tells n i) [
        | inl q ↦ subst (λ t. cond t (c.channel n n ++ puts n) (c.channel n n) ≡ []) (sym q.0)
            (ap (λ l. l ++ puts n) (k.apart n h) ∙ (ap puts q.1 ∙ itself))
        | inr q ↦ subst (λ t. cond t (c.channel n n ++ puts n) (c.channel n n) ≡ []) (sym q.0) (k.apart n h)
      ];
    }

-- a channel without its first message
drained_catches : (w : World) (c : Core) (m : Key) (j i : ℕ) (op : Op) (rest : List Op) → IsCatching w c m → j < w.regions → i < w.regions → c.channel j i ≡ op ∷ rest → IsCatching w (with_channel c j i rest) m
drained_catches w c m j i op rest k from_j inside first =
    record {
      quiet = k.quiet;
      late = λ a b x y. elim (eqb_tells a j) [
        | inr p ↦ subst (λ t. Late a (cond (t && (b == i)) rest (c.channel a b))) (sym p.0) (k.late a b x y)
        | inl p ↦ elim (eqb_tells b i) [
          | inr q ↦ subst (λ t. Late a (cond (t && (b == i)) rest (c.channel a b))) (sym p.0) (subst (λ t. Late a (cond t rest (c.channel a b))) (sym q.0) (k.late a b x y))
          | inl q ↦ subst (λ t. Late a (cond (t && (b == i)) rest (c.channel a b))) (sym p.0) (subst (λ t. Late a (cond t rest (c.channel a b))) (sym q.0)
              (subst (λ n. Late n rest) (sym p.1) (subst (Late j) first (k.late j i from_j inside)).1))
        ]
      ];
      apart = λ a h. elim (eqb_tells a j) [
        | inr p ↦ subst (λ t. cond (t && (a == i)) rest (c.channel a a) ≡ []) (sym p.0) (k.apart a h)
        | inl p ↦ elim (eqb_tells a i) [
          | inr q ↦ subst (λ t. cond (t && (a == i)) rest (c.channel a a) ≡ []) (sym p.0) (subst (λ t. cond t rest (c.channel a a) ≡ []) (sym q.0) (k.apart a h))
          | inl q ↦ absurd (no-cons op rest (sym (k.apart a h) ∙ (ap (λ n. c.channel n a) p.1 ∙ (ap (c.channel j) q.1 ∙ first))))
        ]
      ];
    }
  where
    Late : ℕ → List Op → Type 0
    Late a ops = AllOps (λ k. (is_own w a k ≡ true) × (m is_upto k)) ops

-- the first message of a channel
pub first_key : (w : World) (c : Core) (m : Key) (j i : ℕ) (op : Op) (rest : List Op) → IsCatching w c m → j < w.regions → i < w.regions → c.channel j i ≡ op ∷ rest → (is_own w j (op_key op) ≡ true) × (m is_upto op_key op)
first_key w c m j i op rest k from_j inside first = (subst (AllOps (λ k. (is_own w j k ≡ true) × (m is_upto k))) first (k.late j i from_j inside)).0

-- Fire, Pass and Take keep it
pub fire_catches : (w : World) → IsWorld w → (c : Core) (m : Key) (i : ℕ) (e : Event) → IsCatching w c m → i < w.regions → IsNextEntry w (base_of w c) i (c.part i) e → is_own w i (key_of e) ≡ true → IsCatching w (with_part c i (with_entry (c.part i) e) (fire_puts w.told e)) m
fire_catches w laws c m i e k inside n mine =
    moved_catches w c m i (with_entry (c.part i) e) (fire_puts w.told e) k inside (applied_quiet w (base_of w c) i (c.part i) m e (k.quiet i inside) n)
    (λ l. fires_own w l e (λ j. (is_own w i j ≡ true) × (m is_upto j)) (mine, next_late w (base_of w c) i (c.part i) m e (k.quiet i inside) n))
    (fires_itself w laws i e mine)

pub pass_catches : (w : World) (c : Core) (m : Key) (i : ℕ) (e : Event) → IsCatching w c m → i < w.regions → IsNextEntry w (base_of w c) i (c.part i) e → IsCatching w (with_part c i (with_entry (c.part i) e) (λ _. [])) m
pass_catches w c m i e k inside n =
    moved_catches w c m i (with_entry (c.part i) e) (λ _. []) k inside (applied_quiet w (base_of w c) i (c.part i) m e (k.quiet i inside) n) (λ l. tt) refl

pub end_catches : (w : World) (c : Core) (m : Key) (i : ℕ) → IsCatching w c m → i < w.regions → m is_upto end_key w → IsCatching w (with_part c i (at_end w (c.part i)) (λ _. [])) m
end_catches w c m i k inside h =
    moved_catches w c m i (at_end w (c.part i)) (λ _. []) k inside (quiet_past w (base_of w c) i (at_end w (c.part i)) m h) (λ l. tt) refl

pub take_catches : (w : World) → IsWorld w → (c : Core) (m : Key) (j i : ℕ) (op : Op) (rest : List Op) → IsCatching w c m → j < w.regions → i < w.regions → c.channel j i ≡ op ∷ rest → IsCatching w (with_part (with_channel c j i rest) i (after_take w c.horizon i (c.part i) j op) (take_puts w c.horizon i (c.part i) j op)) m
take_catches w laws c m j i op rest k from_j inside first =
    let key = first_key w c m j i op rest k from_j inside first in
    moved_catches w (with_channel c j i rest) m i (after_take w c.horizon i (c.part i) j op) (take_puts w c.horizon i (c.part i) j op) (drained_catches w c m j i op rest k from_j inside first) inside
    (take_quiet w (base_of w c) c.horizon i j (c.part i) op m key.1 (k.quiet i inside))
    (λ l. ops_weaker (λ n. (is_own w i n ≡ true) × (op_key op is_upto n)) (λ n. (is_own w i n ≡ true) × (m is_upto n)) (λ n h. (h.0, le_le m (op_key op) n key.1 h.1)) (take_puts w c.horizon i (c.part i) j op l) (take_own w c.horizon i j l (c.part i) op))
    (take_itself w laws c.horizon i j (c.part i) op)

-- The owner of the key is told nothing at the key itself.
pub owner_above : (w : World) (c : Core) (m : Key) (j : ℕ) (op : Op) (rest : List Op) → IsWorld w → IsCatching w c m → j < w.regions → c.channel j (w.owner m.place.0) ≡ op ∷ rest → m is_below op_key op
owner_above w c m j op rest laws k from_j first =
    let inside = laws.owned m.place.0 in
    let key = first_key w c m j (w.owner m.place.0) op rest k from_j inside first in
    elim (key_cases m (op_key op)) [
      | inl u ↦ u
      | inr h ↦
          let same : m ≡ op_key op = upto_both m (op_key op) key.1 h in
          let is : w.owner m.place.0 ≡ j = ap (λ n. w.owner n.place.0) same ∙ eqb-true (w.owner (op_key op).place.0) j key.0 in
          absurd (no-cons op rest (sym (k.apart (w.owner m.place.0) inside) ∙ (ap (λ n. c.channel n (w.owner m.place.0)) is ∙ first)))
    ]

-- So once it is past the key it stays past it, through each Take.
pub owner_stays : (w : World) (c : Core) (m : Key) (j i : ℕ) (op : Op) (rest : List Op) → IsWorld w → IsCatching w c m → j < w.regions → c.channel j i ≡ op ∷ rest
    → m is_below (c.part (w.owner m.place.0)).clock → m is_below ((with_part (with_channel c j i rest) i (after_take w c.horizon i (c.part i) j op) (take_puts w c.horizon i (c.part i) j op)).part (w.owner m.place.0)).clock
owner_stays w c m j i op rest laws k from_j first past =
    elim (eqb_tells (w.owner m.place.0) i) [
      | inr q ↦ subst (λ t. m is_below (cond t (after_take w c.horizon i (c.part i) j op) (c.part (w.owner m.place.0))).clock) (sym q.0) past
      | inl q ↦ subst (λ t. m is_below (cond t (after_take w c.horizon i (c.part i) j op) (c.part (w.owner m.place.0))).clock) (sym q.0)
          (takes_past w c.horizon i j (c.part i) op m (owner_above w c m j op rest laws k from_j (ap (c.channel j) q.1 ∙ first)) (subst (λ n. m is_below (c.part n).clock) q.1 past))
    ]

pub moved_above : (w : World) (c : Core) (m : Key) (i : ℕ) (p : Part) (puts : ℕ → List Op) → AreAbove w c m → ((l : ℕ) → AllOps (λ k. m is_below k) (puts l)) → AreAbove w (with_part c i p puts) m
moved_above w c m i p puts above new a b x y = pick (a == i)
  where
    pick : (t : Bool) → AllOps (λ k. m is_below k) (cond t (c.channel a b ++ puts b) (c.channel a b))
    pick true = ops_append (λ k. m is_below k) (c.channel a b) (puts b) (above a b x y) (new b)
    pick false = above a b x y

-- With the key's owner past the key, no message at the key is put by those behind:
pub fire_above : (w : World) (c : Core) (m : Key) (i : ℕ) (e : Event) → IsCatching w c m → i < w.regions → IsNextEntry w (base_of w c) i (c.part i) e → is_own w i (key_of e) ≡ true
    → m is_below (c.part (w.owner m.place.0)).clock → (c.part i).clock is_upto m → AreAbove w c m → AreAbove w (with_part c i (with_entry (c.part i) e) (fire_puts w.told e)) m
fire_above w c m i e k inside n mine past behind above =
    moved_above w c m i (with_entry (c.part i) e) (fire_puts w.told e) above (λ l. fires_own w l e (λ j. m is_below j) later)
  where
    later : m is_below key_of e
    later =
        elim (key_cases m (key_of e)) [
          | inl u ↦ u
          | inr h ↦
              let same : m ≡ key_of e = upto_both m (key_of e) (next_late w (base_of w c) i (c.part i) m e (k.quiet i inside) n) h in
              let is : w.owner m.place.0 ≡ i = ap (λ n. w.owner n.place.0) same ∙ eqb-true (w.owner (key_of e).place.0) i mine in
              absurd (lt_not_le m (c.part i).clock (subst (λ n. m is_below (c.part n).clock) is past) behind)
        ]

-- nor by a Take, and then no clock comes back
pub take_above : (w : World) (c : Core) (m : Key) (j i : ℕ) (op : Op) (rest : List Op) → j < w.regions → i < w.regions → c.channel j i ≡ op ∷ rest → AreAbove w c m
    → AreAbove w (with_part (with_channel c j i rest) i (after_take w c.horizon i (c.part i) j op) (take_puts w c.horizon i (c.part i) j op)) m
take_above w c m j i op rest from_j inside first above =
    moved_above w (with_channel c j i rest) m i (after_take w c.horizon i (c.part i) j op) (take_puts w c.horizon i (c.part i) j op) less
    (λ l. ops_weaker (λ n. (is_own w i n ≡ true) × (op_key op is_upto n)) (λ n. m is_below n) (λ n h. lt_le m (op_key op) n here.0 h.1) (take_puts w c.horizon i (c.part i) j op l) (take_own w c.horizon i j l (c.part i) op))
  where
    here : AllOps (λ k. m is_below k) (op ∷ rest)
    here = subst (AllOps (λ k. m is_below k)) first (above j i from_j inside)

    less : AreAbove w (with_channel c j i rest) m
    less a b x y = pick (a == j && b == i)
      where
        pick : (t : Bool) → AllOps (λ k. m is_below k) (cond t rest (c.channel a b))
        pick true = here.1
        pick false = above a b x y

pub take_past : (w : World) (c : Core) (m : Key) (j i : ℕ) (op : Op) (rest : List Op) → j < w.regions → i < w.regions → c.channel j i ≡ op ∷ rest → AreAbove w c m → ArePast c m w.regions
    → ArePast (with_part (with_channel c j i rest) i (after_take w c.horizon i (c.part i) j op) (take_puts w c.horizon i (c.part i) j op)) m w.regions
take_past w c m j i op rest from_j inside first above past n h = pick (n == i)
  where
    pick : (t : Bool) → m is_below (cond t (after_take w c.horizon i (c.part i) j op) (c.part n)).clock
    pick true = takes_past w c.horizon i j (c.part i) op m (subst (AllOps (λ k. m is_below k)) first (above j i from_j inside)).0 (past i inside)
    pick false = past n h

-- a step of region n, where those before are past the key
pub step_past : (w : World) (c : Core) (m : Key) (n : ℕ) (p : Part) (puts : ℕ → List Op) → m is_below p.clock → ArePast c m n → ArePast (with_part c n p puts) m (n + 1)
step_past w c m n p puts h past k l =
    elim (eqb_tells k n) [
      | inl q ↦ subst (λ t. m is_below (cond t p (c.part k)).clock) (sym q.0) h
      | inr q ↦ subst (λ t. m is_below (cond t p (c.part k)).clock) (sym q.0) (past k (omega (arith, l, q.1)))
    ]

-- and of any region that was past it
pub still_past : (w : World) (c : Core) (m : Key) (n i : ℕ) (p : Part) (puts : ℕ → List Op) → m is_below p.clock → m is_below (c.part n).clock → m is_below ((with_part c i p puts).part n).clock
still_past w c m n i p puts h past = pick (n == i)
  where
    pick : (t : Bool) → m is_below (cond t p (c.part n)).clock
    pick true = h
    pick false = past
