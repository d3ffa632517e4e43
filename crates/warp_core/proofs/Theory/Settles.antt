-- Settling, put together.
use Rattle.std.proofs.Common.{◌≡◌, ℕ, zero, suc, ◌+◌, ◌<◌, ◌≤◌, Bool, true, false, List, [], ◌∷◌, ◌++◌, Some, ◌⊎◌, inl, inr, refl, sym, ap, ◌∙◌, subst, arith}
use Rattle.std.specs.Prelude.{length, drop}
use Rattle.std.proofs.Math.Seq.{drop-append_seam}
use Rattle.surf_kinds.proofs.Tables.{IsRising_keep}
use Rattle.warp_core.proofs.Theory.Cuts.{halves, below_below}
use Rattle.warp_core.proofs.Theory.Commits.{commit_keeps}
use Rattle.std.proofs.lemmas.Bool.Decides.{eqb_tells}
use Rattle.surf_kinds.specs.declared.event.Key.{Key}
use Rattle.surf_kinds.specs.Keys.{is_before, key_of, at, below, from, ◌is_below◌, ◌is_upto◌}
use Rattle.border.specs.Messages.{AllOpsFrom}
use Rattle.warp_core.specs.World.{World, IsWorld, is_own, end_key}
use Rattle.warp_core.specs.Parts.{HasNoEntry, at_end}
use Rattle.warp_core.specs.Cores.{Core, IsConsistent, base_of}
use Rattle.warp_core.specs.Steps.{MayCommit, own_events_below, with_part}
use Rattle.warp_core.specs.declared.step.Step.TheVariants.{Fire, Pass}
use Rattle.warp_core.specs.Settling.{AllOps, IsQuietBelow, IsCatching, AreEmpty, ArePast, is_past, lag, StepsOne, IsPass, IsNextKey, TakesTo, IsLeastNext, IsLeastClock, IsSettling, IsSettled}
use Rattle.warp_core.specs.SettlingLoops.{InDelivery, IsPassing, IsFinishing}
use Rattle.surf_kinds.proofs.Order.{le_le, le_lt, lt_to_le, le_refl, lt_not_le}
use Rattle.warp_core.proofs.Theory.Runs.{step_keeps}
use Rattle.warp_core.proofs.Theory.Catches.{quiet_next, quiet_none}
use Rattle.warp_core.proofs.Theory.Passes.{begins, skips, steps, delivers, pass_falls, second_pass, ending_step, ending_keeps}
use Rattle.warp_core.proofs.Theory.Sweeps.{takes_consistent, takes_horizon, takes_delivery}
use Rattle.warp_core.proofs.Theory.LeastNext.{least_next, hands_out, in_time_below}

steps_consistent : (w : World) → IsWorld w → (old new : Core) (i : ℕ) → StepsOne w old i new → IsConsistent w old → IsConsistent w new
steps_consistent w laws old new i s k =
    elim s [ inl f ↦ step_keeps w laws old new (Fire i) k f | inr p ↦ step_keeps w laws old new (Pass i) k p ]

steps_horizon : (w : World) (old new : Core) (i : ℕ) → StepsOne w old i new → new.horizon ≡ old.horizon
steps_horizon w old new i s =
    elim s [
      | inl f ↦ ap (λ (c : Core). c.horizon) f.4
      | inr p ↦ elim p.1 [ inl q ↦ ap (λ (c : Core). c.horizon) q.3 | inr q ↦ ap (λ (c : Core). c.horizon) q.1 ]
    ]

-- the first delivery is done, and m is the least next key
pub settles_first : (w : World) → IsWorld w → (old c : Core) (m : Key) → IsConsistent w c → c.horizon ≡ old.horizon → AreEmpty w c → IsLeastNext w c w.regions m → m is_below end_key w → IsSettling w old c m
settles_first w laws old c m k same empty least early =
    let s = least.some in
    let catching : IsCatching w c m = record {
      quiet = λ i h. let r = least.least i h in quiet i r.0 r.1 r.2;
      late = λ j i a b. subst (AllOps (λ n. (is_own w j n ≡ true) × (m is_upto n))) (sym (empty j i a b)) tt;
      apart = λ i h. empty i i h h;
    } in
    elim s.2 [
      | inr n ↦ absurd (lt_not_le m (end_key w) early (subst (λ x. end_key w is_upto x) (sym n.1) (le_refl (end_key w))))
      | inl n ↦
          record {
            consistent = k;
            horizon = same;
            catching = catching;
            empty = empty;
            early = early;
            low = subst (λ h. h is_upto m) same (subst (λ x. c.horizon is_upto x) n.2 (le_le c.horizon (c.part s.0).clock (key_of n.0) (k.sound s.0 s.1).low n.1.later));
            event = n.0;
            here = subst (λ x. at x w.history ≡ Some n.0) n.2 (least_next w laws c s.0 n.0 k (subst (IsCatching w c) (sym n.2) catching) s.1 empty n.1);
          }
    ]
  where
    quiet : (i : ℕ) (x : Key) → IsNextKey w c i x → m is_upto x → IsQuietBelow w (base_of w c) i (c.part i) m
    quiet i x n h =
        elim n [
          | inl q ↦ quiet_next w (base_of w c) i (c.part i) m q.0 q.1 (subst (λ y. m is_upto y) (sym q.2) h)
          | inr q ↦ quiet_none w (base_of w c) i (c.part i) m q.0 (lt_to_le m (end_key w) early)
        ]

-- a pass
pub passing_first : (w : World) (old c : Core) (m : Key) → IsSettling w old c m → IsPassing w c c m zero
passing_first w old c m s = record { consistent = s.consistent; horizon = refl; pass = begins w c m s.catching s.empty }

pub passing_skips : (w : World) (start c : Core) (m : Key) (n : ℕ) → IsPassing w start c m n → m is_below (c.part n).clock → IsPassing w start c m (n + 1)
passing_skips w start c m n s h = record { consistent = s.consistent; horizon = s.horizon; pass = skips w c m (is_past start m (w.owner m.place.0)) n s.pass h }

pub passing_steps : (w : World) → IsWorld w → (start c new : Core) (m : Key) (n : ℕ) → IsPassing w start c m n → n < w.regions → m is_below end_key w → (c.part n).clock is_upto m → StepsOne w c n new → IsPassing w start new m (n + 1)
passing_steps w laws start c new m n s inside early behind one =
    record {
      consistent = steps_consistent w laws c new n one s.consistent;
      horizon = steps_horizon w c new n one ∙ s.horizon;
      pass = steps w laws c new m (is_past start m (w.owner m.place.0)) n s.pass inside early behind one;
    }

-- and its delivery
delivered : (w : World) → IsWorld w → (start mid new : Core) (m : Key) → IsPassing w start mid m w.regions → TakesTo w mid new → InDelivery w new m (is_past start m (w.owner m.place.0))
delivered w laws start mid new m p t = takes_delivery w laws m (is_past start m (w.owner m.place.0)) mid new t (delivers w laws mid m (is_past start m (w.owner m.place.0)) p.pass)

pub settles_next : (w : World) → IsWorld w → (old start mid new : Core) (m : Key) → IsSettling w old start m → IsPassing w start mid m w.regions → TakesTo w mid new → AreEmpty w new → IsSettling w old new m
settles_next w laws old start mid new m s p t empty =
    record {
      consistent = takes_consistent w mid new t p.consistent;
      horizon = takes_horizon w mid new mid.horizon t refl ∙ (p.horizon ∙ s.horizon);
      catching = (delivered w laws start mid new m p t).catching;
      empty = empty;
      early = s.early;
      low = s.low;
      event = s.event;
      here = s.here;
    }

pub settles_falls : (w : World) → IsWorld w → (start mid new : Core) (m : Key) (i : ℕ) → IsPassing w start mid m w.regions → TakesTo w mid new → i < w.regions → (start.part i).clock is_upto m → lag w new m < lag w start m
settles_falls w laws start mid new m i p t inside behind = pass_falls w start new m i inside behind (delivered w laws start mid new m p t)

-- a whole pass, and two of them
pub passes : (w : World) → IsWorld w → (old start : Core) (m : Key) → IsSettling w old start m → (n : ℕ) → n ≤ w.regions → (mid : Core) → IsPass w m n start mid → IsPassing w start mid m n
passes w laws old start m s zero le mid p = subst (λ c. IsPassing w start c m zero) (sym p) (passing_first w old start m s)
passes w laws old start m s (suc n) le mid p =
    let before = passes w laws old start m s n (omega (arith, le)) p.0 p.1 in
    let next : n + 1 ≡ suc n = omega arith in
    subst (IsPassing w start mid m) next
    (elim p.2 [
      | inl q ↦ subst (λ c. IsPassing w start c m (n + 1)) (sym q.1) (passing_skips w start p.0 m n before q.0)
      | inr q ↦ passing_steps w laws start p.0 mid m n before (omega (arith, le)) s.early q.0 q.1
    ])

pub pass_settles : (w : World) → IsWorld w → (old start mid new : Core) (m : Key) → IsSettling w old start m → IsPass w m w.regions start mid → TakesTo w mid new → AreEmpty w new → IsSettling w old new m
pass_settles w laws old start mid new m s p t empty = settles_next w laws old start mid new m s (passes w laws old start m s w.regions (omega arith) mid p) t empty

pub pass_lags : (w : World) → IsWorld w → (old start mid new : Core) (m : Key) (i : ℕ) → IsSettling w old start m → IsPass w m w.regions start mid → TakesTo w mid new → i < w.regions → (start.part i).clock is_upto m → lag w new m < lag w start m
pass_lags w laws old start mid new m i s p t inside behind = settles_falls w laws start mid new m i (passes w laws old start m s w.regions (omega arith) mid p) t inside behind

pub two_passes : (w : World) → IsWorld w → (old start first next second new : Core) (m : Key) → IsSettling w old start m → IsPass w m w.regions start first → TakesTo w first next → AreEmpty w next
    → IsPass w m w.regions next second → TakesTo w second new → ArePast new m w.regions
two_passes w laws old start first next second new m s p t empty q u =
    let one = delivered w laws start first next m (passes w laws old start m s w.regions (omega arith) first p) t in
    let settling = pass_settles w laws old start first next m s p t empty in
    second_pass w next new m one.owner_past (delivered w laws next second new m (passes w laws old next m settling w.regions (omega arith) second q) u)

-- no region is behind any more
pub settles_done : (w : World) (old c : Core) (m : Key) → IsSettling w old c m → ArePast c m w.regions → IsSettled w old c
settles_done w old c m s past =
    record {
      consistent = s.consistent;
      horizon = s.horizon;
      empty = s.empty;
      gone = inr (m, subst (λ h. h is_upto m) (sym s.horizon) s.low, past, (s.event, s.here));
    }

-- nothing is left
pub finishing_first : (w : World) (old c : Core) (m : Key) → IsConsistent w c → c.horizon ≡ old.horizon → AreEmpty w c → IsLeastNext w c w.regions m → end_key w is_upto m → IsFinishing w old c zero
finishing_first w old c m k same empty least late =
    record { consistent = k; horizon = same; none = λ i h. let r = least.least i h in none i r.0 r.1 r.2; empty = empty; ends = λ i h. absurd (omega (arith, h)) }
  where
    none : (i : ℕ) (x : Key) → IsNextKey w c i x → m is_upto x → HasNoEntry w (base_of w c) i (c.part i)
    none i x n h =
        elim n [
          | inl q ↦ absurd (lt_not_le (key_of q.0) (end_key w) (in_time_below w q.0 q.1.in_time) (subst (λ y. end_key w is_upto y) (sym q.2) (le_le (end_key w) m x late h)))
          | inr q ↦ q.0
        ]

pub finishing_skips : (w : World) (start c : Core) (n : ℕ) → IsFinishing w start c n → (c.part n).clock ≡ end_key w → IsFinishing w start c (n + 1)
finishing_skips w start c n s h =
    record { consistent = s.consistent; horizon = s.horizon; none = s.none; empty = s.empty; ends = λ i l. elim (eqb_tells i n) [ inl q ↦ ap (λ x. (c.part x).clock) q.1 ∙ h | inr q ↦ s.ends i (omega (arith, l, q.1)) ] }

pub finishing_steps : (w : World) → IsWorld w → (start c new : Core) (n : ℕ) → IsFinishing w start c n → n < w.regions → StepsOne w c n new → IsFinishing w start new (n + 1)
finishing_steps w laws start c new n s inside one =
    let is : new ≡ with_part c n (at_end w (c.part n)) (λ _. []) = ending_step w c new n inside (s.none, s.empty) one in
    let kept = ending_keeps w c n inside (s.none, s.empty) in
    record {
      consistent = steps_consistent w laws c new n one s.consistent;
      horizon = steps_horizon w c new n one ∙ s.horizon;
      none = subst (λ (x : Core). (i : ℕ) → i < w.regions → HasNoEntry w (base_of w x) i (x.part i)) (sym is) kept.0;
      empty = subst (AreEmpty w) (sym is) kept.1;
      ends = subst (λ (x : Core). (i : ℕ) → i < n + 1 → (x.part i).clock ≡ end_key w) (sym is) (λ i l. elim (eqb_tells i n) [
        | inl q ↦ ap (λ t. (Rattle.std.proofs.Common.cond t (at_end w (c.part n)) (c.part i)).clock) q.0
        | inr q ↦ ap (λ t. (Rattle.std.proofs.Common.cond t (at_end w (c.part n)) (c.part i)).clock) q.0 ∙ s.ends i (omega (arith, l, q.1))
      ]);
    }

pub finishing_done : (w : World) (old c : Core) → IsFinishing w old c w.regions → IsSettled w old c
finishing_done w old c s = record { consistent = s.consistent; horizon = s.horizon; empty = s.empty; gone = inl s.ends }

-- What a round then commits: the least clock k of all regions may be committed, and either it is the end key, or something is handed out.
pub may_commit : (w : World) (old new : Core) (k : Key) → IsSettled w old new → IsLeastClock w new k → MayCommit w new k
may_commit w old new k s l =
    record {
      from_horizon = subst (λ x. new.horizon is_upto x) (sym l.some.2) (s.consistent.sound l.some.0 l.some.1).low;
      clocks = l.least;
      messages = λ j i a b. subst (AllOpsFrom k) (sym (s.empty j i a b)) tt;
    }

pub round_gives : (w : World) → IsWorld w → (old new : Core) (k : Key) → IsSettled w old new → IsLeastClock w new k → (k ≡ end_key w) ⊎ (own_events_below w new k w.regions ≡ [] → ⊥)
round_gives w laws old new k s l =
    elim s.gone [
      | inl ends ↦ inl (l.some.2 ∙ ends l.some.0 l.some.1)
      | inr q ↦ inr (λ none. hands_out w laws new q.0 k q.3.0 s.consistent (may_commit w old new k s l) q.1
          (subst (λ x. q.0 is_below x) (sym l.some.2) (q.2 l.some.0 l.some.1)) q.3.1 none)
    ]

-- and it is later than the horizon, unless that was the end key
pub round_moves : (w : World) (old new : Core) (k : Key) → IsSettled w old new → IsLeastClock w new k → new.horizon is_below end_key w → new.horizon is_below k
round_moves w old new k s l early =
    elim s.gone [
      | inl ends ↦ subst (λ x. new.horizon is_below x) (sym (l.some.2 ∙ ends l.some.0 l.some.1)) early
      | inr q ↦ le_lt new.horizon q.0 k q.1 (subst (λ x. q.0 is_below x) (sym l.some.2) (q.2 l.some.0 l.some.1))
    ]

-- What a commit hands out: the history's events from the old horizon on and below the new one.
pub handed_out : (w : World) → IsWorld w → (c : Core) (k : Key) → IsConsistent w c → MayCommit w c k → own_events_below w c k w.regions ≡ from c.horizon (below k w.history)
handed_out w laws c k good may =
    let new : c.committed ++ own_events_below w c k w.regions ≡ below k w.history = (commit_keeps w laws c k good may).committed in
    let whole : below c.horizon (below k w.history) ++ from c.horizon (below k w.history) ≡ below k w.history = halves c.horizon (below k w.history) (IsRising_keep (λ j. is_before j k) w.history laws.rising) in
    let first : below c.horizon (below k w.history) ≡ c.committed = below_below c.horizon k w.history may.from_horizon ∙ sym good.committed in
    let both : c.committed ++ own_events_below w c k w.regions ≡ c.committed ++ from c.horizon (below k w.history) = new ∙ (sym whole ∙ ap (λ l. l ++ from c.horizon (below k w.history)) first) in
    sym (drop-append_seam c.committed (own_events_below w c k w.regions)) ∙ (ap (drop (length c.committed)) both ∙ drop-append_seam c.committed (from c.horizon (below k w.history)))
