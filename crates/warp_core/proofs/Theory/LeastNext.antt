-- Where nothing is left below the least next key, the history has an event at it; so once all clocks are past it, something is committed.
use Rattle.std.proofs.Common.{◌≡◌, ℕ, ◌<◌, ◌≤◌, Bool, true, List, [], ◌∷◌, ◌++◌, Option, Some, None, inl, inr, refl, sym, ap, ◌∙◌, subst, arith, cond, append-nil, if◌then◌else◌}
use Rattle.std.proofs.lemmas.Bool.{cases_Bool, eq-eqb, eqb-true}
use Rattle.std.proofs.lemmas.Bool.Decides.{nat_tests}
use Rattle.std.proofs.lemmas.Option.{none-some}
use Rattle.surf_kinds.specs.declared.event.Key.{Key}
use Rattle.surf_kinds.specs.declared.event.Event.{Event}
use Rattle.surf_kinds.specs.declared.site.SiteState.{SiteState}
use Rattle.border.specs.declared.op.Op.{Op}
use Rattle.surf_kinds.specs.Keys.{is_before, key_of, at, keep, below, from, ◌is_below◌, ◌is_upto◌}
use Rattle.border.specs.Messages.{replay, AllOpsFrom}
use Rattle.plan.specs.History.{if_at}
use Rattle.warp_core.specs.World.{World, IsWorld, is_own, is_told_by, after_all, end_key}
use Rattle.warp_core.specs.Timelines.{due_at, IsLocal}
use Rattle.warp_core.specs.Parts.{Part, IsSound, IsNextEntry, received_at, with_entry, fire_puts}
use Rattle.warp_core.specs.Cores.{Core, IsConsistent, base_of}
use Rattle.warp_core.specs.Steps.{with_part, own_events_below, after_commit, MayCommit}
use Rattle.warp_core.specs.Settling.{AllOps, IsQuietBelow, IsCatching}
use Rattle.surf_kinds.proofs.Order.{lt_le, le_le, lt_to_le, le_refl, key_cases, below_after, same_refl}
use Rattle.surf_kinds.proofs.Tables.{AllKeys_weaker, at_keep, at_append_right}
use Rattle.warp_core.proofs.Theory.Cuts.{at_below, at_below_none, at_from, below_all, below_none, AllKeys_from}
use Rattle.warp_core.proofs.Theory.Locals.{nothing_above, all_below}
use Rattle.warp_core.proofs.Theory.Moves.{fire_keeps}
use Rattle.warp_core.proofs.Theory.Commits.{commit_keeps}
use Rattle.warp_core.proofs.Theory.Catches.{fire_catches}

-- the clock, with_part up to m where it is behind
abbrev pub lifted : Key → Part → Part
lifted m p = record p { clock = if is_before p.clock m then m else p.clock }

lifted_local : (w : World) (mine : Key → Bool) (base : List SiteState) (floor : Key) (ins : Key → Option Event) (clock m : Key) (es : List Event) → clock is_upto m → IsLocal w mine base floor ins clock es
    → ((k : Key) → clock is_upto k → k is_below m → due_at w mine ins (after_all w base es) k ≡ None) → IsLocal w mine base floor ins m es
lifted_local w mine base floor ins clock m es high l n =
    record {
      rising = l.rising;
      span = AllKeys_weaker (λ j. (floor is_upto j) × (j is_below clock)) (λ j. (floor is_upto j) × (j is_below m)) (λ j s. (s.0, lt_le j clock m s.1 high)) es l.span;
      each = λ j over under. elim (key_cases j clock) [
        | inl h ↦ l.each j over h
        | inr h ↦
            nothing_above w mine base floor ins clock es l j h
            ∙ (sym (n j h under)
            ∙ ap (λ xs. due_at w mine ins (after_all w base xs) j) (sym (below_all j es (AllKeys_weaker (λ i. i is_below clock) (λ i. i is_below j) (λ i s. lt_le i clock j s h) es (all_below w mine base floor ins clock es l)))))
      ];
    }

lifted_sound : (w : World) (base : List SiteState) (floor m : Key) (i : ℕ) (p : Part) → m is_upto end_key w → IsQuietBelow w base i p m → IsSound w base floor i p → IsSound w base floor i (lifted m p)
lifted_sound w base floor m i p h q s =
    elim (cases_Bool (is_before p.clock m)) [
      | inl u ↦ subst (λ t. IsSound w base floor i (record p { clock = cond t m p.clock })) (sym u)
          (record { low = le_le floor p.clock m s.low (lt_to_le p.clock m u); high = h; local = lifted_local w (is_own w i) base floor (received_at w p) p.clock m p.timeline (lt_to_le p.clock m u) s.local q })
      | inr u ↦ subst (λ t. IsSound w base floor i (record p { clock = cond t m p.clock })) (sym u) s
    ]

lifted_upto : (m : Key) (p : Part) → m is_upto (lifted m p).clock
lifted_upto m p =
    elim (cases_Bool (is_before p.clock m)) [
      | inl u ↦ subst (λ t. m is_upto cond t m p.clock) (sym u) (le_refl m)
      | inr u ↦ subst (λ t. m is_upto cond t m p.clock) (sym u) u
    ]

lifted_past : (m : Key) (p : Part) → m is_below p.clock → m is_below (lifted m p).clock
lifted_past m p h = subst (λ t. m is_below cond t m p.clock) (sym (lt_to_le m p.clock h)) h

abbrev pub lifted_core : Key → Core → Core
lifted_core m c = record c { part = λ i. lifted m (c.part i) }

pub lifted_keeps : (w : World) (c : Core) (m : Key) → m is_upto end_key w → IsConsistent w c → ((i : ℕ) → i < w.regions → IsQuietBelow w (base_of w c) i (c.part i) m) → IsConsistent w (lifted_core m c)
lifted_keeps w c m h k q =
    record {
      committed = k.committed;
      sound = λ i x. lifted_sound w (base_of w c) c.horizon m i (c.part i) h (q i x) (k.sound i x);
      rising = k.rising;
      stacked = k.stacked;
      sent = k.sent;
      pairs = k.pairs;
    }

ops_from : (P : Key → Type 0) (m : Key) (ops : List Op) → AllOps (λ k. P k × (m is_upto k)) ops → AllOpsFrom m ops
ops_from P m [] h = tt
ops_from P m (x ∷ xs) h = (h.0.1, ops_from P m xs h.1)

-- Where nothing is left below m, the owner of m, once past it, has at m what the history has.
pub owner_is_right : (w : World) → IsWorld w → (c : Core) (m : Key) → IsConsistent w c → IsCatching w c m → c.horizon is_upto m → m is_below end_key w
    → m is_below (c.part (w.owner m.place.0)).clock → at m (c.part (w.owner m.place.0)).timeline ≡ at m w.history
owner_is_right w laws c m k q low high past =
    sym (at_from m m t (le_refl m))
    ∙ (s.local.each m (le_refl m) (lifted_past m (c.part o) past)
    ∙ (ap (λ b. cond b (if_at m (w.next m.place.0 (after_all w (base_of w new) (below m (from m t))))) (received_at w (c.part o) m)) (eq-eqb o o refl)
    ∙ (ap (λ xs. if_at m (w.next m.place.0 (after_all w (base_of w new) xs))) (below_none m (from m t) (AllKeys_from m t))
    ∙ (ap (λ xs. if_at m (w.next m.place.0 (after_all w w.start xs))) good.committed
    ∙ sym (laws.pointwise m high)))))
  where
    o : ℕ
    o = w.owner m.place.0

    t : List Event
    t = (c.part (w.owner m.place.0)).timeline

    may : MayCommit w (lifted_core m c) m
    may = record {
      from_horizon = low;
      clocks = λ i h. lifted_upto m (c.part i);
      messages = λ j i a b. ops_from (λ k. is_own w j k ≡ true) m (c.channel j i) (q.late j i a b);
    }

    new : Core
    new = after_commit w (lifted_core m c) m

    good : IsConsistent w (after_commit w (lifted_core m c) m)
    good = commit_keeps w laws (lifted_core m c) m (lifted_keeps w c m (lt_to_le m (end_key w) high) k q.quiet) may

    s : IsSound w (base_of w (after_commit w (lifted_core m c) m)) m (w.owner m.place.0) ((after_commit w (lifted_core m c) m).part (w.owner m.place.0))
    s = good.sound (w.owner m.place.0) (laws.owned m.place.0)

pub in_time_below : (w : World) (e : Event) → e.time ≤ w.until → key_of e is_below end_key w
in_time_below w e h = grind (arith, nat_tests)

-- the owner of a key that another region has next is past it and has the event
came_owner : (w : World) → IsWorld w → (c : Core) (i : ℕ) (e : Event) → IsConsistent w c → i < w.regions → c.channel (w.owner e.place.0) i ≡ [] → c.horizon is_upto key_of e → (c.part i).stack (w.owner e.place.0) ≡ (c.part i).stack (w.owner e.place.0) → at (key_of e) ((c.part i).stack (w.owner e.place.0)) ≡ Some e
    → at (key_of e) (c.part (w.owner e.place.0)).timeline ≡ Some e
came_owner w laws c i e k inside empty low same is =
    let o = w.owner e.place.0 in
    let stack = (c.part i).stack o in
    let line = (c.part o).timeline in
    let both : at (key_of e) (keep (is_told_by w o i) line) ≡ Some e =
    ap (at (key_of e)) (sym (k.pairs o i (laws.owned e.place.0) inside) ∙ ap (λ ops. from c.horizon (replay stack ops)) empty) ∙ (at_from c.horizon (key_of e) stack low ∙ is) in
    elim (cases_Bool (is_told_by w o i (key_of e))) [
      | inl t ↦ sym (at_keep (is_told_by w o i) (key_of e) line ∙ ap (λ b. cond b (at (key_of e) line) None) t) ∙ both
      | inr t ↦ absurd (none-some e (sym (at_keep (is_told_by w o i) (key_of e) line ∙ ap (λ b. cond b (at (key_of e) line) None) t) ∙ both))
    ]

-- With nothing under way, the least next key is a key of the history.
pub least_next : (w : World) → IsWorld w → (c : Core) (i : ℕ) (e : Event) → IsConsistent w c → IsCatching w c (key_of e) → i < w.regions → ((j l : ℕ) → j < w.regions → l < w.regions → c.channel j l ≡ [])
    → IsNextEntry w (base_of w c) i (c.part i) e → at (key_of e) w.history ≡ Some e
least_next w laws c i e k q inside empty n =
    elim (cases_Bool (is_own w i (key_of e))) [
      | inl mine ↦
          let new = with_part c i (with_entry (c.part i) e) (fire_puts w.told e) in
          let is : w.owner e.place.0 ≡ i = eqb-true (w.owner e.place.0) i mine in
          let part_is : new.part (w.owner e.place.0) ≡ with_entry (c.part i) e = ap (λ t. cond t (with_entry (c.part i) e) (c.part (w.owner e.place.0))) mine in
          let line : at (key_of e) (new.part (w.owner e.place.0)).timeline ≡ Some e =
          ap (λ (p : Part). at (key_of e) p.timeline) part_is
          ∙ (at_append_right (key_of e) (c.part i).timeline (e ∷ []) (nothing_above w (is_own w i) (base_of w c) c.horizon (received_at w (c.part i)) (c.part i).clock (c.part i).timeline (k.sound i inside).local (key_of e) n.later)
          ∙ ap (λ b. cond b (Some e) None) (same_refl (key_of e))) in
          sym (owner_is_right w laws new (key_of e) (fire_keeps w laws c i e k inside n mine) (fire_catches w laws c (key_of e) i e q inside n mine) low high
          (subst (λ (p : Part). key_of e is_below p.clock) (sym part_is) (below_after (key_of e))))
          ∙ line
      | inr other ↦
          let is : at (key_of e) ((c.part i).stack (w.owner e.place.0)) ≡ Some e =
          sym (ap (λ b. cond b (if_at (key_of e) (w.next e.place.0 (after_all w (base_of w c) (c.part i).timeline))) (received_at w (c.part i) (key_of e))) other) ∙ n.here in
          let line : at (key_of e) (c.part (w.owner e.place.0)).timeline ≡ Some e = came_owner w laws c i e k inside (empty (w.owner e.place.0) i (laws.owned e.place.0) inside) low refl is in
          sym (owner_is_right w laws c (key_of e) k q low high (past line)) ∙ line
    ]
  where
    low : c.horizon is_upto key_of e
    low = le_le c.horizon (c.part i).clock (key_of e) (k.sound i inside).low n.later

    high : key_of e is_below end_key w
    high = in_time_below w e n.in_time

    past : at (key_of e) (c.part (w.owner e.place.0)).timeline ≡ Some e → key_of e is_below (c.part (w.owner e.place.0)).clock
    past h =
        elim (key_cases (key_of e) (c.part (w.owner e.place.0)).clock) [
          | inl u ↦ u
          | inr v ↦ absurd (none-some e (sym (nothing_above w (is_own w (w.owner e.place.0)) (base_of w c) c.horizon (received_at w (c.part (w.owner e.place.0))) (c.part (w.owner e.place.0)).clock (c.part (w.owner e.place.0)).timeline (k.sound (w.owner e.place.0) (laws.owned e.place.0)).local (key_of e) v) ∙ h))
        ]

-- So a commit at a later key hands out something.
pub hands_out : (w : World) → IsWorld w → (c : Core) (m k : Key) (e : Event) → IsConsistent w c → MayCommit w c k → c.horizon is_upto m → m is_below k → at m w.history ≡ Some e → own_events_below w c k w.regions ≡ [] → ⊥
hands_out w laws c m k e good may low under is none =
    let new : c.committed ++ own_events_below w c k w.regions ≡ below k w.history = (commit_keeps w laws c k good may).committed in
    let same : below c.horizon w.history ≡ below k w.history = sym good.committed ∙ (sym (append-nil c.committed) ∙ (ap (λ l. c.committed ++ l) (sym none) ∙ new)) in
    none-some e (sym (at_below_none c.horizon m w.history low) ∙ (ap (at m) same ∙ (at_below k m w.history under ∙ is)))
