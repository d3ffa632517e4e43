-- Deliveries as lists of Takes, and sweeps.
use Rattle.std.proofs.Common.{◌≡◌, ℕ, zero, ◌+◌, ◌<◌, ◌≤◌, Bool, true, false, List, [], ◌∷◌, inl, inr, refl, sym, ap, ◌∙◌, subst, arith, cond, if◌then◌else◌}
use Rattle.surf_kinds.specs.Keys.{◌is_below◌, ◌is_upto◌}
use Rattle.surf_kinds.proofs.Order.{le_refl, le_le, lt_to_le}
use Rattle.std.proofs.lemmas.Bool.Decides.{eqb_tells}
use Rattle.std.proofs.lemmas.Bool.{both_ways}
use Rattle.surf_kinds.specs.declared.event.Key.{Key}
use Rattle.warp_core.specs.World.{World, IsWorld}
use Rattle.warp_core.specs.Cores.{Core, IsConsistent}
use Rattle.warp_core.specs.Steps.{StepOf, StepsOf}
use Rattle.warp_core.specs.declared.step.Step.{Step}
use Rattle.warp_core.specs.declared.step.Step.TheVariants.{Fire, Pass, Take, Commit}
use Rattle.std.specs.Prelude.{length}
use Rattle.warp_core.specs.Settling.{load, AreTakes, TakesTo, AreEmpty, IsNextKey, IsLeastNext}
use Rattle.warp_core.specs.SettlingLoops.{Swept, InDelivery, OneEmpty, RowEmpty, RowsEmpty}
use Rattle.warp_core.proofs.Theory.Delivers.{take_falls}
use Rattle.warp_core.proofs.Theory.Moves.{take_keeps}
use Rattle.warp_core.proofs.Theory.Passes.{takes}

pub no_takes : (w : World) (c : Core) → TakesTo w c c
no_takes w c = ([], tt, refl)

steps_more : (w : World) (old mid new : Core) (steps : List Step) (j i : ℕ) → AreTakes steps → StepsOf w old steps mid → StepOf w mid (Take j i) new → TakesTo w old new
steps_more w old mid new [] j i a s t = (Take j i ∷ [], tt, (new, subst (λ (c : Core). StepOf w c (Take j i) new) s t, refl))
steps_more w old mid new (Take a b ∷ steps) j i all s t =
    let rest = steps_more w s.0 mid new steps j i all s.2 t in
    (Take a b ∷ rest.0, rest.1, (s.0, s.1, rest.2))
steps_more w old mid new (Fire n ∷ steps) j i all s t = absurd all
steps_more w old mid new (Pass n ∷ steps) j i all s t = absurd all
steps_more w old mid new (Commit n ∷ steps) j i all s t = absurd all

pub take_more : (w : World) (old mid new : Core) (j i : ℕ) → TakesTo w old mid → StepOf w mid (Take j i) new → TakesTo w old new
take_more w old mid new j i s t = steps_more w old mid new s.0 j i s.1 s.2 t

steps_join : (w : World) (old mid new : Core) (steps : List Step) → AreTakes steps → StepsOf w old steps mid → TakesTo w mid new → TakesTo w old new
steps_join w old mid new [] a s t = subst (λ (c : Core). TakesTo w c new) s t
steps_join w old mid new (Take a b ∷ steps) all s t =
    let rest = steps_join w s.0 mid new steps all s.2 t in
    (Take a b ∷ rest.0, rest.1, (s.0, s.1, rest.2))
steps_join w old mid new (Fire n ∷ steps) all s t = absurd all
steps_join w old mid new (Pass n ∷ steps) all s t = absurd all
steps_join w old mid new (Commit n ∷ steps) all s t = absurd all

pub takes_join : (w : World) (old mid new : Core) → TakesTo w old mid → TakesTo w mid new → TakesTo w old new
takes_join w old mid new s t = steps_join w old mid new s.0 s.1 s.2 t

-- what each Take keeps
steps_hold : (w : World) (P : Core → Type 0) → ((old new : Core) (j i : ℕ) → P old → StepOf w old (Take j i) new → P new) → (old new : Core) (steps : List Step) → AreTakes steps → StepsOf w old steps new → P old → P new
steps_hold w P f old new [] a s p = subst P (sym s) p
steps_hold w P f old new (Take j i ∷ steps) a s p = steps_hold w P f s.0 new steps a s.2 (f old s.0 j i p s.1)
steps_hold w P f old new (Fire n ∷ steps) a s p = absurd a
steps_hold w P f old new (Pass n ∷ steps) a s p = absurd a
steps_hold w P f old new (Commit n ∷ steps) a s p = absurd a

pub takes_hold : (w : World) (P : Core → Type 0) → ((old new : Core) (j i : ℕ) → P old → StepOf w old (Take j i) new → P new) → (old new : Core) → TakesTo w old new → P old → P new
takes_hold w P f old new t p = steps_hold w P f old new t.0 t.1 t.2 p

pub takes_consistent : (w : World) (old new : Core) → TakesTo w old new → IsConsistent w old → IsConsistent w new
takes_consistent w = takes_hold w (IsConsistent w) (λ a b j i p s. subst (IsConsistent w) (sym s.5) (take_keeps w a j i s.2 s.3 p s.0 s.1 s.4))

pub takes_horizon : (w : World) (old new : Core) (k : Key) → TakesTo w old new → old.horizon ≡ k → new.horizon ≡ k
takes_horizon w old new k t = takes_hold w (λ (c : Core). c.horizon ≡ k) (λ a b j i p s. ap (λ (c : Core). c.horizon) s.5 ∙ p) old new t

pub takes_delivery : (w : World) → IsWorld w → (m : Key) (ready : Bool) (old new : Core) → TakesTo w old new → InDelivery w old m ready → InDelivery w new m ready
takes_delivery w laws m ready = takes_hold w (λ c. InDelivery w c m ready) (λ a b j i p s. takes w laws a b m ready j i p s)

-- so there are no more of them than the load falls by
pub takes_end : (w : World) (old new : Core) (steps : List Step) → AreTakes steps → StepsOf w old steps new → length steps + load w new ≤ load w old
takes_end w old new [] a s = let same : load w new ≡ load w old = ap (load w) s in omega (arith, same)
takes_end w old new (Take j i ∷ steps) a s = omega (arith, takes_end w s.0 new steps a s.2, take_falls w old s.0 j i s.1)
takes_end w old new (Fire i ∷ steps) a s = absurd a
takes_end w old new (Pass i ∷ steps) a s = absurd a
takes_end w old new (Commit k ∷ steps) a s = absurd a

-- sweeps
pub swept_none : (w : World) (c : Core) (j : ℕ) → Swept w c c false (RowEmpty j zero)
swept_none w c j = record { takes = no_takes w c; falls = λ h. absurd (both_ways false refl h); still = λ h. (refl, λ i l. absurd (omega (arith, l))) }

pub swept_rows : (w : World) (c : Core) → Swept w c c false (RowsEmpty w zero)
swept_rows w c = record { takes = no_takes w c; falls = λ h. absurd (both_ways false refl h); still = λ h. (refl, λ j i l. absurd (omega (arith, l))) }

-- after some Takes the load is no more than before
pub takes_load : (w : World) (old new : Core) → TakesTo w old new → load w new ≤ load w old
takes_load w old new t =
    takes_hold w (λ c. load w c ≤ load w old) (λ a b j i p s. le_of (load w b) (load w a) (load w old) (take_falls w a b j i s) p) old new t (omega arith)
  where
    le_of : (x y z : ℕ) → x < y → y ≤ z → x ≤ z
    le_of x y z p q = omega (arith, p, q)

pub swept_took : (w : World) (old mid new : Core) (with_part : Bool) (P Q : Core → Type 0) (j i : ℕ) → Swept w old mid with_part P → StepOf w mid (Take j i) new → Swept w old new true Q
swept_took w old mid new with_part P Q j i s t =
    record {
      takes = take_more w old mid new j i s.takes t;
      falls = λ h. omega (arith, takes_load w old mid s.takes, take_falls w mid new j i t);
      still = λ h. absurd (both_ways true h refl);
    }

pub swept_not : (w : World) (old mid new : Core) (with_part : Bool) (j n : ℕ) → Swept w old mid with_part (RowEmpty j n) → new ≡ mid → mid.channel j n ≡ [] → Swept w old new with_part (RowEmpty j (n + 1))
swept_not w old mid new with_part j n s same empty =
    subst (λ (c : Core). Swept w old c with_part (RowEmpty j (n + 1))) (sym same)
    (record {
      takes = s.takes;
      falls = s.falls;
      still = λ h. ((s.still h).0, λ i l. elim (eqb_tells i n) [ inl q ↦ ap (mid.channel j) q.1 ∙ empty | inr q ↦ (s.still h).1 i (omega (arith, l, q.1)) ]);
    })

pub swept_row : (w : World) (old mid new : Core) (with_part row : Bool) (n : ℕ) → Swept w old mid with_part (RowsEmpty w n) → Swept w mid new row (RowEmpty n w.regions) → row ≡ true → Swept w old new true (RowsEmpty w (n + 1))
swept_row w old mid new with_part row n s t r =
    record {
      takes = takes_join w old mid new s.takes t.takes;
      falls = λ h. omega (arith, takes_load w old mid s.takes, t.falls r);
      still = λ h. absurd (both_ways true h refl);
    }

pub swept_no_row : (w : World) (old mid new : Core) (with_part row : Bool) (n : ℕ) → Swept w old mid with_part (RowsEmpty w n) → Swept w mid new row (RowEmpty n w.regions) → row ≡ false → Swept w old new with_part (RowsEmpty w (n + 1))
swept_no_row w old mid new with_part row n s t r =
    let here = t.still r in
    subst (λ (c : Core). Swept w old c with_part (RowsEmpty w (n + 1))) (sym here.0)
    (record {
      takes = s.takes;
      falls = s.falls;
      still = λ h. ((s.still h).0, λ j i l u. elim (eqb_tells j n) [ inl q ↦ ap (λ x. mid.channel x i) q.1 ∙ subst (RowEmpty n w.regions) here.0 here.1 i u | inr q ↦ (s.still h).1 j i (omega (arith, l, q.1)) u ]);
    })

-- what a sweep does to the measure of the loop
pub swept_measure : (w v : World) (old new : Core) (with_part before : Bool) (n : ℕ) → v ≡ w → Swept w old new with_part (RowsEmpty w n) → before ≡ true → load v new + (if with_part then 1 else 0) < load w old + (if before then 1 else 0)
swept_measure w v old new true before n same s h =
    let one : load v new ≡ load w new = ap (λ x. load x new) same in
    let two : ◌≡◌ {A = ℕ} (if before then 1 else 0) 1 = ap (λ t. cond t 1 0) h in
    omega (arith, one, two, s.falls refl)
swept_measure w v old new false before n same s h =
    let one : load v new ≡ load w old = ap (λ x. load x new) same ∙ ap (load w) (s.still refl).0 in
    let two : ◌≡◌ {A = ℕ} (if before then 1 else 0) 1 = ap (λ t. cond t 1 0) h in
    omega (arith, one, two)

pub swept_empty : (w : World) (old new : Core) (with_part : Bool) (n : ℕ) → Swept w old new with_part (RowsEmpty w n) → n ≡ w.regions → with_part ≡ false → AreEmpty w new
swept_empty w old new with_part n s all h = subst (λ k. RowsEmpty w k new) all (s.still h).1

-- the least next key
pub least_first : (w : World) (c : Core) (m : Key) → IsNextKey w c zero m → IsLeastNext w c 1 m
least_first w c m h = record {
  some = (0, omega arith, h);
  least = λ i l. let zero_is : 0 ≡ i = omega (arith, l) in subst (λ x. (k : Key) × IsNextKey w c x k × (m is_upto k)) zero_is (m, h, le_refl m);
}

pub least_better : (w : World) (c : Core) (n : ℕ) (m k : Key) → IsLeastNext w c n m → IsNextKey w c n k → k is_below m → IsLeastNext w c (n + 1) k
least_better w c n m k s h u = record {
  some = (n, omega arith, h);
  least = λ i l. elim (eqb_tells i n) [
    | inl q ↦ subst (λ x. (j : Key) × IsNextKey w c x j × (k is_upto j)) (sym q.1) (k, h, le_refl k)
    | inr q ↦ let r = s.least i (omega (arith, l, q.1)) in (r.0, r.1, le_le k m r.0 (lt_to_le k m u) r.2)
  ];
}

pub least_other : (w : World) (c : Core) (n : ℕ) (m k : Key) → IsLeastNext w c n m → IsNextKey w c n k → m is_upto k → IsLeastNext w c (n + 1) m
least_other w c n m k s h u = record {
  some = (s.some.0, omega (arith, s.some.1), s.some.2);
  least = λ i l. elim (eqb_tells i n) [
    | inl q ↦ subst (λ x. (j : Key) × IsNextKey w c x j × (m is_upto j)) (sym q.1) (k, h, u)
    | inr q ↦ s.least i (omega (arith, l, q.1))
  ];
}

-- one channel, to its end
pub swept_nothing : (w : World) (c : Core) → Swept w c c false (λ _. Unit {0})
swept_nothing w c = record { takes = no_takes w c; falls = λ h. absurd (both_ways false refl h); still = λ h. (refl, tt) }

pub swept_end : (w : World) (old mid new : Core) (with_part : Bool) (j i : ℕ) → Swept w old mid with_part (λ _. Unit {0}) → new ≡ mid → mid.channel j i ≡ [] → Swept w old new with_part (OneEmpty j i)
swept_end w old mid new with_part j i s same empty =
    subst (λ (c : Core). Swept w old c with_part (OneEmpty j i)) (sym same) (record { takes = s.takes; falls = s.falls; still = λ h. ((s.still h).0, empty) })

pub swept_one : (w : World) (old mid new : Core) (with_part one : Bool) (j n : ℕ) → Swept w old mid with_part (RowEmpty j n) → Swept w mid new one (OneEmpty j n) → one ≡ true → Swept w old new true (RowEmpty j (n + 1))
swept_one w old mid new with_part one j n s t r =
    record {
      takes = takes_join w old mid new s.takes t.takes;
      falls = λ h. omega (arith, takes_load w old mid s.takes, t.falls r);
      still = λ h. absurd (both_ways true h refl);
    }

pub swept_no_one : (w : World) (old mid new : Core) (with_part one : Bool) (j n : ℕ) → Swept w old mid with_part (RowEmpty j n) → Swept w mid new one (OneEmpty j n) → one ≡ false → Swept w old new with_part (RowEmpty j (n + 1))
swept_no_one w old mid new with_part one j n s t r = swept_not w old mid new with_part j n s (t.still r).0 (subst (OneEmpty j n) (t.still r).0 (t.still r).1)
