-- What a region takes a message for.
use Rattle.std.proofs.Common.{◌≡◌, ℕ, ◌^◌, ◌≤◌, true, false, ◌&&◌, ◌==◌, List, [], ◌∷◌, Option, Some, None, ◌⊎◌, inl, inr, refl, sym, ap, ◌∙◌, subst, arith, cond, if◌then◌else◌}
use Rattle.std.specs.Prelude.{not, nat_le}
use Rattle.std.specs.List.{cons_option}
use Rattle.std.specs.Option.{option_map_or}
use Rattle.std.proofs.lemmas.Bool.{cases_Bool, and_parts, and_from, not-true, not_from_false}
use Rattle.std.proofs.lemmas.Bool.Decides.{nat_tests, eqb_tells}
use Rattle.std.proofs.lemmas.Option.{none-some, same_Some}
use Rattle.surf_kinds.specs.declared.event.Key.{Key}
use Rattle.surf_kinds.specs.declared.event.Event.{Event}
use Rattle.surf_kinds.specs.Keys.{is_before, key_of, ◌is_below◌, ◌is_upto◌}
use Rattle.border.specs.declared.op.Op.{Op}
use Rattle.border.specs.declared.op.Op.TheVariants.{Put, Back}
use Rattle.border.specs.Messages.{replay, replay_one, op_key, IsPutOf, IsLawful, is_put_of, is_lawful, accepted_op, IsSent}
use Rattle.warp_core.specs.Messages.{accepted_ops, AreSent, partition_of}
use Rattle.warp_core.specs.World.{World, is_own}
use Rattle.warp_core.specs.Parts.{Part, after_op, after_take}
use Rattle.surf_kinds.proofs.Order.{le_refl, lt_to_le}

early_late : (t : ℕ) → 1 ≤ t → t ≤ 10 ^ 15 → (nat_le 1 t && nat_le t 1000000000000000) ≡ true
early_late t p q = grind (arith, nat_tests)

early_late_back : (t : ℕ) → (nat_le 1 t && nat_le t 1000000000000000) ≡ true → (1 ≤ t) × (t ≤ 10 ^ 15)
early_late_back t h = grind (arith, nat_tests)

pub put_tested : (w : World) (j i : ℕ) (e : Event) → IsPutOf (partition_of w) j i e → is_put_of (partition_of w) j i e ≡ true
put_tested w j i e p =
    and_from (is_own w j (key_of e)) _ p.owned
    (and_from (w.told i e.place.0) _ p.told
    (and_from (w.fits e) _ p.fits
    (early_late e.time p.early p.late)))

pub tested_put : (w : World) (j i : ℕ) (e : Event) → is_put_of (partition_of w) j i e ≡ true → IsPutOf (partition_of w) j i e
tested_put w j i e h =
    let a = and_parts (is_own w j (key_of e)) (w.told i e.place.0 && (w.fits e && (nat_le 1 e.time && nat_le e.time 1000000000000000))) h in
    let b = and_parts (w.told i e.place.0) (w.fits e && (nat_le 1 e.time && nat_le e.time 1000000000000000)) a.1 in
    let c = and_parts (w.fits e) (nat_le 1 e.time && nat_le e.time 1000000000000000) b.1 in
    let d = early_late_back e.time c.1 in
    record { owned = a.0; told = b.0; fits = c.0; early = d.0; late = d.1 }

-- what the core sends is taken for what it is
pub sent_accepted : (w : World) (j i : ℕ) (floor : Key) (op : Op) → IsSent (partition_of w) j i floor w.until op → accepted_op (partition_of w) j i floor op ≡ Some op
sent_accepted w j i floor (Put e) s =
    ap (λ b. cond b (Some (Put e)) None) (and_from (not (is_before (key_of e) floor)) (is_put_of (partition_of w) j i e) (not_from_false (is_before (key_of e) floor) s.0) (put_tested w j i e s.2))
sent_accepted w j i floor (Back k) s = ap (λ b. cond b (Some (Back floor)) (Some (Back k))) s

pub are_sent_accepted : (w : World) (j i : ℕ) (floor : Key) (ops : List Op) → AreSent w j i floor ops → accepted_ops w j i floor ops ≡ ops
are_sent_accepted w j i floor [] s = refl
are_sent_accepted w j i floor (op ∷ ops) s =
    ap (λ o. cons_option o (accepted_ops w j i floor ops)) (sent_accepted w j i floor op s.0) ∙ ap (λ l. op ∷ l) (are_sent_accepted w j i floor ops s.1)

pub none_or_op : (o : Option Op) → (o ≡ None) ⊎ ((a : Op) × (o ≡ Some a))
none_or_op None = inl refl
none_or_op (Some a) = inr (a, refl)

-- and all that is accepted is from the floor on
pub accepted_from : (w : World) (j i : ℕ) (floor : Key) (op a : Op) → accepted_op (partition_of w) j i floor op ≡ Some a → floor is_upto op_key a
accepted_from w j i floor (Put e) a h =
    elim (cases_Bool (is_lawful (partition_of w) j i floor e)) [
      | inl p ↦
          let is : Put e ≡ a = same_Some (Put e) a (sym (ap (λ b. cond b (Some (Put e)) None) p) ∙ h) in
          let high : floor is_upto key_of e = not-true (is_before (key_of e) floor) ((and_parts (not (is_before (key_of e) floor)) (is_put_of (partition_of w) j i e) p).0) in
          subst (λ o. floor is_upto op_key o) is high
      | inr p ↦ absurd (none-some a (sym (ap (λ b. cond b (Some (Put e)) None) p) ∙ h))
    ]
accepted_from w j i floor (Back k) a h =
    elim (cases_Bool (is_before k floor)) [
      | inl p ↦ subst (λ o. floor is_upto op_key o) (same_Some (Back floor) a (sym (ap (λ b. cond b (Some (Back floor)) (Some (Back k))) p) ∙ h)) (le_refl floor)
      | inr p ↦ subst (λ o. floor is_upto op_key o) (same_Some (Back k) a (sym (ap (λ b. cond b (Some (Back floor)) (Some (Back k))) p) ∙ h)) p
    ]

-- the stacks after a message: that of its sender is the replay of what it was taken for
pub take_stack : (w : World) (floor : Key) (i : ℕ) (p : Part) (j : ℕ) (op : Op) (a : ℕ) → (after_take w floor i p j op).stack a ≡ replay (p.stack a) (accepted_ops w a i floor (if a == j then op ∷ [] else []))
take_stack w floor i p j op a =
    elim (eqb_tells a j) [
      | inl q ↦ subst (λ t. (after_take w floor i p j op).stack a ≡ replay (p.stack a) (accepted_ops w a i floor (cond t (op ∷ []) []))) (sym q.0)
          (subst (λ s. (after_take w floor i p s op).stack a ≡ replay (p.stack a) (cons_option (accepted_op (partition_of w) a i floor op) [])) q.1 (here (accepted_op (partition_of w) a i floor op)))
      | inr q ↦ subst (λ t. (after_take w floor i p j op).stack a ≡ replay (p.stack a) (accepted_ops w a i floor (cond t (op ∷ []) []))) (sym q.0) (there (accepted_op (partition_of w) j i floor op) q.0)
    ]
  where
    here : (o : Option Op) → (option_map_or (after_op p a) o p).stack a ≡ replay (p.stack a) (cons_option o [])
    here None = refl
    here (Some x) = ap (λ t. cond t (replay_one (p.stack a) x) (p.stack a)) (same a)
      where
        same : (n : ℕ) → (n == n) ≡ true
        same n = Rattle.std.proofs.lemmas.Bool.eq-eqb n n refl

    there : (o : Option Op) → (a == j) ≡ false → (option_map_or (after_op p j) o p).stack a ≡ p.stack a
    there None h = refl
    there (Some x) h = ap (λ t. cond t (replay_one (p.stack a) x) (p.stack a)) h

-- a message is taken for one with its key or a later one
pub accepted_upto : (w : World) (j i : ℕ) (floor : Key) (op a : Op) → accepted_op (partition_of w) j i floor op ≡ Some a → op_key op is_upto op_key a
accepted_upto w j i floor (Put e) a h =
    elim (cases_Bool (is_lawful (partition_of w) j i floor e)) [
      | inl p ↦ subst (λ o. key_of e is_upto op_key o) (same_Some (Put e) a (sym (ap (λ b. cond b (Some (Put e)) None) p) ∙ h)) (le_refl (key_of e))
      | inr p ↦ absurd (none-some a (sym (ap (λ b. cond b (Some (Put e)) None) p) ∙ h))
    ]
accepted_upto w j i floor (Back k) a h =
    elim (cases_Bool (is_before k floor)) [
      | inl p ↦ subst (λ o. k is_upto op_key o) (same_Some (Back floor) a (sym (ap (λ b. cond b (Some (Back floor)) (Some (Back k))) p) ∙ h)) (lt_to_le k floor p)
      | inr p ↦ subst (λ o. k is_upto op_key o) (same_Some (Back k) a (sym (ap (λ b. cond b (Some (Back floor)) (Some (Back k))) p) ∙ h)) (le_refl k)
    ]

-- a Put that isn't lawful is passed over
pub passed_over : (w : World) (floor : Key) (i j : ℕ) (e : Event) → (IsLawful (partition_of w) j i floor e → ⊥) → accepted_op (partition_of w) j i floor (Put e) ≡ None
passed_over w floor i j e not_lawful =
    elim (cases_Bool (is_lawful (partition_of w) j i floor e)) [
      | inl h ↦
          let both = and_parts (not (is_before (key_of e) floor)) (is_put_of (partition_of w) j i e) h in
          absurd (not_lawful (record { from_floor = not-true (is_before (key_of e) floor) both.0; put = tested_put w j i e both.1 }))
      | inr h ↦ ap (λ b. cond b (Some (Put e)) None) h
    ]

-- and a Back below the floor is one at the floor
pub back_at_floor : (w : World) (floor key : Key) (i j : ℕ) → key is_below floor → accepted_op (partition_of w) j i floor (Back key) ≡ accepted_op (partition_of w) j i floor (Back floor)
back_at_floor w floor key i j h =
    ap (λ b. cond b (Some (Back floor)) (Some (Back key))) h ∙ sym (ap (λ b. cond b (Some (Back floor)) (Some (Back floor))) (le_refl floor))
