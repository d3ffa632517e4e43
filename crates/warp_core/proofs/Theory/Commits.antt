-- Commit keeps a configuration consistent, and what is committed is the history below the horizon.
use Rattle.std.proofs.Common.{◌≡◌, ℕ, zero, suc, ◌<◌, ◌≤◌, Bool, true, false, ◌&&◌, ◌||◌, List, [], ◌∷◌, ◌++◌, Option, None, inl, inr, refl, sym, ap, ◌∙◌, subst, arith, cond, if◌then◌else◌, append-nil}
use Rattle.std.specs.Prelude.{not}
use Rattle.std.proofs.lemmas.Bool.{cases_Bool, eq-eqb, or_left}
use Rattle.std.proofs.lemmas.Bool.Decides.{eqb_tells}
use Rattle.std.proofs.lemmas.Option.{none-some}
use Rattle.surf_kinds.specs.declared.event.Key.{Key}
use Rattle.surf_kinds.specs.declared.site.SiteState.{SiteState}
use Rattle.surf_kinds.specs.declared.event.Event.{Event}
use Rattle.border.specs.declared.op.Op.{Op}
use Rattle.border.specs.declared.op.Op.TheVariants.{Put, Back}
use Rattle.surf_kinds.specs.Keys.{is_before, origin, ◌is_below◌, ◌is_upto◌, at, keep, below, from, AllKeys, IsRising}
use Rattle.border.specs.Messages.{replay, op_key, IsSent, AllOpsFrom}
use Rattle.warp_core.specs.Messages.{AreSent, partition_of}
use Rattle.plan.specs.History.{if_at}
use Rattle.warp_core.specs.World.{World, IsWorld, Agree, after_all, is_own, is_told_by, end_key}
use Rattle.warp_core.specs.Timelines.{IsLocal}
use Rattle.warp_core.specs.Parts.{received_at, IsSound}
use Rattle.warp_core.specs.Cores.{Core, IsConsistent, base_of}
use Rattle.warp_core.specs.Steps.{own_events_below, after_commit, MayCommit}
use Rattle.surf_kinds.proofs.Order.{lt_le, le_le, lt_to_le, le_refl, key_cases, is_upto_origin}
use Rattle.surf_kinds.proofs.Tables.{none_or_some, at_keep, at_keep_yes, at_keep_no, AllKeys_from_at, AllKeys_weaker, AllKeys_append, IsRising_keep, IsRising_append, at_append_left, at_append_right, same_tables, keep_same, keep_keep, keep_swap, keep_append}
use Rattle.warp_core.proofs.Theory.Cuts.{at_below, at_below_none, at_from, below_below, below_all, below_none, IsRising_put_all, at_put_all_none, at_put_all_some, at_replay}
use Rattle.warp_core.proofs.Theory.Locals.{nothing_above, nothing_under, all_below, only_one, cut, raised, rebased, after_all_append, agree_refl, agree_sym, agree_trans, agree_after_all, needed_only, needs}

-- what is committed, as a timeline for which every place is its own
abbrev pub every : Key → Bool
every k = true

abbrev pub nothing : Key → Option Event
nothing k = None

pub history_local : (w : World) → IsWorld w → IsLocal w every w.start origin nothing (end_key w) w.history
history_local w laws =
    record {
      rising = laws.rising;
      span = AllKeys_weaker (λ k. k is_below end_key w) (λ k. (origin is_upto k) × (k is_below end_key w)) (λ k h. (is_upto_origin k, h)) w.history laws.within;
      each = λ k over under. laws.pointwise k under;
    }

-- a timeline for which every place is its own is the history below its clock
pub is_history : (w : World) → IsWorld w → (k : Key) (es : List Event) → k is_upto end_key w → IsLocal w every w.start origin nothing k es → es ≡ below k w.history
is_history w laws k es h l =
    only_one w every w.start origin nothing k es (below k w.history) l
    (cut w every w.start origin nothing nothing (end_key w) k w.history (history_local w laws) h (λ j u. refl))

keep_none_at : (P : Key → Bool) (k : Key) (es : List Event) → at k es ≡ None → at k (keep P es) ≡ None
keep_none_at P k es h = elim (cases_Bool (P k)) [ inl p ↦ at_keep_yes P k es p ∙ h | inr p ↦ at_keep_no P k es p ]

pub from_from : (a b : Key) (es : List Event) → a is_upto b → from b (from a es) ≡ from b es
from_from a b es h = keep_keep (λ j. not (is_before j b)) (λ j. not (is_before j a)) es ∙ keep_same (λ j. not (is_before j a) && not (is_before j b)) (λ j. not (is_before j b)) (λ j. tables (is_before j a) (is_before j b) (λ p. lt_le j a b p h)) es
  where
    tables : (x y : Bool) → (x ≡ true → y ≡ true) → (not x && not y) ≡ not y
    tables true true p = refl
    tables true false p = p refl
    tables false true p = refl
    tables false false p = refl

sent_later : (w : World) (j i : ℕ) (a b : Key) (op : Op) → IsSent (partition_of w) j i a w.until op → b is_upto op_key op → IsSent (partition_of w) j i b w.until op
sent_later w j i a b (Put e) s h = (h, s.1, s.2)
sent_later w j i a b (Back k) s h = h

are_sent_later : (w : World) (j i : ℕ) (a b : Key) (ops : List Op) → AreSent w j i a ops → AllOpsFrom b ops → AreSent w j i b ops
are_sent_later w j i a b [] s h = tt
are_sent_later w j i a b (op ∷ ops) s h = (sent_later w j i a b op s.0 h.0, are_sent_later w j i a b ops s.1 h.1)

module _ (w : World) (laws : IsWorld w) (c : Core) (k : Key) (good : IsConsistent w c) (may : MayCommit w c k) where
  line : ℕ → List Event
  line i = (c.part i).timeline

  -- the own events of the first n regions, at a key
  pub gathered_rising : (n : ℕ) → IsRising (own_events_below w c k n)
  gathered_rising zero = tt
  gathered_rising (suc n) = IsRising_put_all (keep (is_own w n) (below k (c.part n).timeline)) (own_events_below w c k n) (gathered_rising n)

  pub gathered_late : (n : ℕ) (j : Key) → k is_upto j → at j (own_events_below w c k n) ≡ None
  gathered_late zero j h = refl
  gathered_late (suc n) j h =
      at_put_all_none (keep (is_own w n) (below k (c.part n).timeline)) (own_events_below w c k n) j (keep_none_at (is_own w n) j (below k (c.part n).timeline) (at_below_none k j (c.part n).timeline h))
      ∙ gathered_late n j h

  gathered_other : (n : ℕ) (j : Key) → n ≤ w.owner j.place.0 → at j (own_events_below w c k n) ≡ None
  gathered_other zero j h = refl
  gathered_other (suc n) j h =
      let apart : is_own w n j ≡ false = elim (eqb_tells (w.owner j.place.0) n) [ inl q ↦ absurd (omega (arith, h, q.1)) | inr q ↦ q.0 ] in
      at_put_all_none (keep (is_own w n) (below k (c.part n).timeline)) (own_events_below w c k n) j (at_keep_no (is_own w n) j (below k (c.part n).timeline) apart)
      ∙ gathered_other n j (omega (arith, h))

  pub gathered_has : (n : ℕ) (j : Key) → j is_below k → w.owner j.place.0 < n → at j (own_events_below w c k n) ≡ at j (c.part (w.owner j.place.0)).timeline
  gathered_has zero j u h = absurd (omega (arith, h))
  gathered_has (suc n) j u h =
      let new = keep (is_own w n) (below k (c.part n).timeline) in
      elim (eqb_tells (w.owner j.place.0) n) [
        | inl q ↦
            let here : at j new ≡ at j (c.part (w.owner j.place.0)).timeline =
            at_keep_yes (is_own w n) j (below k (c.part n).timeline) q.0 ∙ (at_below k j (c.part n).timeline u ∙ ap (λ m. at j (c.part m).timeline) (sym q.1)) in
            elim (none_or_some (at j new)) [
              | inl none ↦ at_put_all_none new (own_events_below w c k n) j none ∙ (gathered_other n j (omega (arith, q.1)) ∙ (sym none ∙ here))
              | inr some ↦ at_put_all_some new (own_events_below w c k n) j some.0 some.1 ∙ (sym some.1 ∙ here)
            ]
        | inr q ↦
            at_put_all_none new (own_events_below w c k n) j (at_keep_no (is_own w n) j (below k (c.part n).timeline) q.0)
            ∙ gathered_has n j u (omega (arith, h, q.1))
      ]

  all_events : List Event
  all_events = own_events_below w c k w.regions

  sound_of : (i : ℕ) → i < w.regions → IsSound w (base_of w c) c.horizon i (c.part i)
  sound_of i h = good.sound i h

  under_horizon : (i : ℕ) → i < w.regions → (j : Key) → j is_below c.horizon → at j (c.part i).timeline ≡ None
  under_horizon i h j u = nothing_under w (is_own w i) (base_of w c) c.horizon (received_at w (c.part i)) (c.part i).clock (c.part i).timeline (good.sound i h).local j u

  events_early : (j : Key) → j is_below c.horizon → at j (own_events_below w c k w.regions) ≡ None
  events_early j u = gathered_has w.regions j (lt_le j c.horizon k u may.from_horizon) (laws.owned j.place.0) ∙ under_horizon (w.owner j.place.0) (laws.owned j.place.0) j u

  events_from : AllKeys (λ j. c.horizon is_upto j) (own_events_below w c k w.regions)
  events_from = AllKeys_from_at (λ j. c.horizon is_upto j) (own_events_below w c k w.regions) (λ j e is. elim (key_cases j c.horizon) [ inl u ↦ absurd (none-some e (sym (events_early j u) ∙ is)) | inr over ↦ over ])

  events_below : AllKeys (λ j. j is_below k) (own_events_below w c k w.regions)
  events_below = AllKeys_from_at (λ j. j is_below k) (own_events_below w c k w.regions) (λ j e is. elim (key_cases j k) [ inl u ↦ u | inr over ↦ absurd (none-some e (sym (gathered_late w.regions j over) ∙ is)) ])

  -- a region has of them, below the key, what it needs
  at_other : (i : ℕ) → i < w.regions → (j : Key) → j is_below k → c.horizon is_upto j → is_own w i j ≡ false → at j (c.part i).timeline ≡ (if w.told i j.place.0 then at j (c.part (w.owner j.place.0)).timeline else None)
  at_other i h j u over apart =
      let s = w.owner j.place.0 in
      let p = c.part i in
      let here : at j p.timeline ≡ at j (p.stack s) =
      (good.sound i h).local.each j over (lt_le j k p.clock u (may.clocks i h)) ∙ ap (λ b. cond b (if_at j (w.next j.place.0 (after_all w (base_of w c) (below j p.timeline)))) (at j (p.stack s))) apart in
      here
      ∙ (sym (at_replay k j (p.stack s) (c.channel s i) (may.messages s i (laws.owned j.place.0) h) u)
      ∙ (sym (at_from c.horizon j (replay (p.stack s) (c.channel s i)) over)
      ∙ (ap (at j) (good.pairs s i (laws.owned j.place.0) h)
      ∙ (at_keep (is_told_by w s i) j (c.part s).timeline
      ∙ ap (λ b. if b && w.told i j.place.0 then at j (c.part s).timeline else None) (eq-eqb s s refl)))))

  has_needed : (i : ℕ) → i < w.regions → below k (c.part i).timeline ≡ keep (needs w i) (own_events_below w c k w.regions)
  has_needed i h =
      same_tables (below k (c.part i).timeline) (keep (needs w i) (own_events_below w c k w.regions))
      (IsRising_keep (λ j. is_before j k) (c.part i).timeline (good.sound i h).local.rising)
      (IsRising_keep (needs w i) (own_events_below w c k w.regions) (gathered_rising w.regions))
      (λ j. elim (key_cases j k) [
        | inr late ↦ at_below_none k j (c.part i).timeline late ∙ sym (keep_none_at (needs w i) j (own_events_below w c k w.regions) (gathered_late w.regions j late))
        | inl u ↦ at_below k j (c.part i).timeline u ∙ each j u
      ])
    where
      each : (j : Key) → j is_below k → at j (c.part i).timeline ≡ at j (keep (needs w i) (own_events_below w c k w.regions))
      each j u =
          let all = own_events_below w c k w.regions in
          let there : at j all ≡ at j (c.part (w.owner j.place.0)).timeline = gathered_has w.regions j u (laws.owned j.place.0) in
          elim (key_cases j c.horizon) [
            | inl early ↦ under_horizon i h j early ∙ sym (keep_none_at (needs w i) j all (events_early j early))
            | inr over ↦ elim (eqb_tells (w.owner j.place.0) i) [
              | inl q ↦
                  ap (λ n. at j (c.part n).timeline) (sym q.1)
                  ∙ (sym there ∙ sym (at_keep_yes (needs w i) j all (or_left (is_own w i j) (w.told i j.place.0) q.0)))
              | inr q ↦
                  at_other i h j u over q.0
                  ∙ (ap (λ o. if w.told i j.place.0 then o else None) (sym there)
                  ∙ (ap (λ b. if b || w.told i j.place.0 then at j all else None) (sym q.0)
                  ∙ sym (at_keep (needs w i) j all)))
            ]
          ]

  -- with all events between, a region's surface agrees with the whole one
  agree_below : (i : ℕ) → i < w.regions → (j : Key) → j is_upto k → Agree w i (after_all w (base_of w c) (below j (own_events_below w c k w.regions))) (after_all w (base_of w c) (below j (c.part i).timeline))
  agree_below i h j u =
      let all = own_events_below w c k w.regions in
      let same : keep (needs w i) (below j all) ≡ below j (c.part i).timeline =
      keep_swap (needs w i) (λ n. is_before n j) all ∙ (ap (below j) (sym (has_needed i h)) ∙ below_below j k (c.part i).timeline u) in
      subst (λ l. Agree w i (after_all w (base_of w c) (below j all)) (after_all w (base_of w c) l)) same
      (needed_only w laws i (below j all) (base_of w c) (base_of w c) (agree_refl w i (base_of w c)))

  -- what is committed then
  new_committed : List Event
  new_committed = c.committed ++ own_events_below w c k w.regions

  high : k is_upto end_key w
  high = le_le k (c.part (w.owner 0)).clock (end_key w) (may.clocks (w.owner 0) (laws.owned 0)) (good.sound (w.owner 0) (laws.owned 0)).high

  old_local : IsLocal w every w.start origin nothing c.horizon c.committed
  old_local =
      subst (IsLocal w every w.start origin nothing c.horizon) (sym good.committed)
      (cut w every w.start origin nothing nothing (end_key w) c.horizon w.history (history_local w laws) (le_le c.horizon k (end_key w) may.from_horizon high) (λ j u. refl))

  old_below : AllKeys (λ j. j is_below c.horizon) c.committed
  old_below = all_below w every w.start origin nothing c.horizon c.committed old_local

  committed_local : IsLocal w every w.start origin nothing k (c.committed ++ own_events_below w c k w.regions)
  committed_local =
      record {
        rising = IsRising_append c.horizon c.committed (own_events_below w c k w.regions) old_local.rising (gathered_rising w.regions) old_below events_from;
        span = AllKeys_append (λ j. (origin is_upto j) × (j is_below k)) c.committed (own_events_below w c k w.regions)
            (AllKeys_weaker (λ j. j is_below c.horizon) (λ j. (origin is_upto j) × (j is_below k)) (λ j h. (is_upto_origin j, lt_le j c.horizon k h may.from_horizon)) c.committed old_below)
            (AllKeys_weaker (λ j. j is_below k) (λ j. (origin is_upto j) × (j is_below k)) (λ j h. (is_upto_origin j, h)) (own_events_below w c k w.regions) events_below);
        each = λ j over under. elim (key_cases j c.horizon) [
          | inl early ↦
              at_append_left j c.committed (own_events_below w c k w.regions) (events_early j early)
              ∙ (old_local.each j over early
              ∙ ap (λ l. if_at j (w.next j.place.0 (after_all w w.start l))) (sym (before j early)))
          | inr late ↦ at_append_right j c.committed (own_events_below w c k w.regions) (nothing_above w every w.start origin nothing c.horizon c.committed old_local j late) ∙ fresh j late under
        ];
      }
    where
      before : (j : Key) → j is_below c.horizon → below j (c.committed ++ own_events_below w c k w.regions) ≡ below j c.committed
      before j early =
          keep_append (λ i. is_before i j) c.committed (own_events_below w c k w.regions)
          ∙ (ap (λ l. below j c.committed ++ l) (below_none j (own_events_below w c k w.regions) (AllKeys_weaker (λ i. c.horizon is_upto i) (λ i. j is_upto i) (λ i h. lt_to_le j i (lt_le j c.horizon i early h)) (own_events_below w c k w.regions) events_from))
          ∙ append-nil (below j c.committed))

      behind : (j : Key) → c.horizon is_upto j → after_all w (base_of w c) (below j (own_events_below w c k w.regions)) ≡ after_all w w.start (below j (c.committed ++ own_events_below w c k w.regions))
      behind j late =
          sym (after_all_append w w.start c.committed (below j (own_events_below w c k w.regions)))
          ∙ ap (after_all w w.start)
          (ap (λ l. l ++ below j (own_events_below w c k w.regions)) (sym (below_all j c.committed (AllKeys_weaker (λ i. i is_below c.horizon) (λ i. i is_below j) (λ i h. lt_le i c.horizon j h late) c.committed old_below)))
          ∙ sym (keep_append (λ i. is_before i j) c.committed (own_events_below w c k w.regions)))

      fresh : (j : Key) → c.horizon is_upto j → j is_below k → at j (own_events_below w c k w.regions) ≡ if_at j (w.next j.place.0 (after_all w w.start (below j (c.committed ++ own_events_below w c k w.regions))))
      fresh j late under =
          let i = w.owner j.place.0 in
          let p = c.part i in
          let inside : i < w.regions = laws.owned j.place.0 in
          gathered_has w.regions j under inside
          ∙ ((good.sound i inside).local.each j late (lt_le j k p.clock under (may.clocks i inside))
          ∙ (ap (λ b. cond b (if_at j (w.next j.place.0 (after_all w (base_of w c) (below j p.timeline)))) (received_at w p j)) (eq-eqb i i refl)
          ∙ (ap (if_at j) (laws.same_next j.place.0 _ _ (agree_sym w i _ _ (agree_below i inside j (lt_to_le j k under))))
          ∙ ap (λ s. if_at j (w.next j.place.0 s)) (behind j late))))

  pub commit_keeps : IsConsistent w (after_commit w c k)
  commit_keeps =
      record {
        committed = is_history w laws k (c.committed ++ own_events_below w c k w.regions) high committed_local;
        sound = λ i h.
            let p = c.part i in
            let all = own_events_below w c k w.regions in
            record {
              low = may.clocks i h;
              high = (good.sound i h).high;
              local =
                  subst (λ s. IsLocal w (is_own w i) s k (received_at w p) p.clock (from k p.timeline)) (sym (after_all_append w w.start c.committed all))
                  (rebased w laws i (after_all w (base_of w c) (below k p.timeline)) (after_all w (base_of w c) all) k (received_at w p) p.clock (from k p.timeline)
                  (subst (λ l. Agree w i (after_all w (base_of w c) (below k p.timeline)) (after_all w (base_of w c) l)) (below_all k all events_below) (agree_sym w i _ _ (agree_below i h k (le_refl k))))
                  (raised w (is_own w i) (base_of w c) c.horizon k (received_at w p) p.clock p.timeline may.from_horizon (good.sound i h).local));
            };
        rising = good.rising;
        stacked = good.stacked;
        sent = λ j i a b. are_sent_later w j i c.horizon k (c.channel j i) (good.sent j i a b) (may.messages j i a b);
        pairs = λ j i a b.
            sym (from_from c.horizon k (replay ((c.part i).stack j) (c.channel j i)) may.from_horizon)
            ∙ (ap (from k) (good.pairs j i a b)
            ∙ keep_swap (λ n. not (is_before n k)) (is_told_by w j i) (c.part j).timeline);
      }

  -- an own base that agrees with the common one still does so when both have taken in what was committed
  pub own_base_kept : (i : ℕ) → i < w.regions → (a : List SiteState) → Agree w i a (base_of w c) → Agree w i (after_all w a (below k (c.part i).timeline)) (base_of w (after_commit w c k))
  own_base_kept i h a p =
      let all = own_events_below w c k w.regions in
      let own_part = below k (c.part i).timeline in
      agree_trans w i (after_all w a own_part) (after_all w (base_of w c) own_part) (base_of w (after_commit w c k))
      (agree_after_all w laws i own_part a (base_of w c) p)
      (subst (Agree w i (after_all w (base_of w c) own_part)) (sym (after_all_append w w.start c.committed all))
      (subst (λ l. Agree w i (after_all w (base_of w c) own_part) (after_all w (base_of w c) l)) (below_all k all events_below) (agree_sym w i _ _ (agree_below i h k (le_refl k)))))
