-- A pass: each region behind the key makes one step, then all is delivered. Two passes do.
use Rattle.std.proofs.Common.{◌≡◌, ℕ, zero, suc, ◌+◌, ◌<◌, ◌≤◌, Bool, true, false, ◌==◌, List, [], ◌++◌, inl, inr, refl, sym, ap, ◌∙◌, subst, arith, cond, if◌then◌else◌}
use Rattle.std.proofs.lemmas.Bool.{cases_Bool}
use Rattle.std.proofs.lemmas.Bool.Decides.{eqb_tells, nat_tests}
use Rattle.std.proofs.lemmas.Option.{none-some}
use Rattle.surf_kinds.specs.declared.site.SiteState.{SiteState}
use Rattle.surf_kinds.specs.declared.event.Key.{Key}
use Rattle.surf_kinds.specs.declared.event.Event.{Event}
use Rattle.border.specs.declared.op.Op.{Op}
use Rattle.surf_kinds.specs.Keys.{key_of, ◌is_below◌, ◌is_upto◌}
use Rattle.warp_core.specs.World.{World, IsWorld, end_key}
use Rattle.warp_core.specs.Parts.{Part, IsNextEntry, HasNoEntry, with_entry, at_end, fire_puts}
use Rattle.warp_core.specs.Cores.{Core, base_of}
use Rattle.warp_core.specs.Steps.{StepOf, with_part}
use Rattle.warp_core.specs.declared.step.Step.TheVariants.{Take}
use Rattle.warp_core.specs.Settling.{sum_below, AllOps, IsCatching, ArePast, AreEmpty, is_past, lag, StepsOne}
use Rattle.warp_core.specs.SettlingLoops.{InPass, InDelivery}
use Rattle.surf_kinds.proofs.Order.{lt_not_le, lt_to_le}
use Rattle.warp_core.proofs.Theory.Catches.{applied_past, fire_catches, pass_catches, end_catches, take_catches, owner_stays, fire_above, moved_above, take_above, take_past, step_past, still_past}

-- a pass begins
pub begins : (w : World) (c : Core) (m : Key) → IsCatching w c m → AreEmpty w c → InPass w c m (is_past c m (w.owner m.place.0)) zero
begins w c m k empty =
    record {
      catching = k;
      past = λ n h. absurd (omega (arith, h));
      above = λ h. (h, λ j i a b. subst (AllOps (λ n. m is_below n)) (sym (empty j i a b)) tt);
    }

-- a region that isn't behind makes no step
pub skips : (w : World) (c : Core) (m : Key) (ready : Bool) (n : ℕ) → InPass w c m ready n → m is_below (c.part n).clock → InPass w c m ready (n + 1)
skips w c m ready n k h =
    record {
      catching = k.catching;
      past = λ l u. elim (eqb_tells l n) [ inl q ↦ subst (λ x. m is_below (c.part x).clock) (sym q.1) h | inr q ↦ k.past l (omega (arith, u, q.1)) ];
      above = k.above;
    }

-- one that is behind makes one
pub steps : (w : World) → IsWorld w → (old new : Core) (m : Key) (ready : Bool) (n : ℕ) → InPass w old m ready n → n < w.regions → m is_below end_key w → (old.part n).clock is_upto m → StepsOne w old n new → InPass w new m ready (n + 1)
steps w laws old new m ready n k inside high behind s =
    elim s [
      | inl f ↦
          let e = f.1 in
          let ahead : m is_below (with_entry (old.part n) e).clock = applied_past w (base_of w old) n (old.part n) m e (k.catching.quiet n inside) f.2 in
          subst (λ (c : Core). InPass w c m ready (n + 1)) (sym f.4)
          (record {
            catching = fire_catches w laws old m n e k.catching inside f.2 f.3;
            past = step_past w old m n (with_entry (old.part n) e) (fire_puts w.told e) ahead k.past;
            above = λ h.
                let a = k.above h in
                (still_past w old m (w.owner m.place.0) n (with_entry (old.part n) e) (fire_puts w.told e) ahead a.0, fire_above w old m n e k.catching inside f.2 f.3 a.0 behind a.1);
          })
      | inr p ↦ elim p.1 [
        | inl f ↦
            let e = f.0 in
            let ahead : m is_below (with_entry (old.part n) e).clock = applied_past w (base_of w old) n (old.part n) m e (k.catching.quiet n inside) f.1 in
            subst (λ (c : Core). InPass w c m ready (n + 1)) (sym f.3)
            (record {
              catching = pass_catches w old m n e k.catching inside f.1;
              past = step_past w old m n (with_entry (old.part n) e) (λ _. []) ahead k.past;
              above = λ h.
                  let a = k.above h in
                  (still_past w old m (w.owner m.place.0) n (with_entry (old.part n) e) (λ _. []) ahead a.0, moved_above w old m n (with_entry (old.part n) e) (λ _. []) a.1 (λ l. tt));
            })
        | inr f ↦
            subst (λ (c : Core). InPass w c m ready (n + 1)) (sym f.1)
            (record {
              catching = end_catches w old m n k.catching inside (lt_to_le m (end_key w) high);
              past = step_past w old m n (at_end w (old.part n)) (λ _. []) high k.past;
              above = λ h.
                  let a = k.above h in
                  (still_past w old m (w.owner m.place.0) n (at_end w (old.part n)) (λ _. []) high a.0, moved_above w old m n (at_end w (old.part n)) (λ _. []) a.1 (λ l. tt));
            })
      ]
    ]

-- all have made their turn: delivery
pub delivers : (w : World) → IsWorld w → (c : Core) (m : Key) (ready : Bool) → InPass w c m ready w.regions → InDelivery w c m ready
delivers w laws c m ready k =
    record { catching = k.catching; owner_past = k.past (w.owner m.place.0) (laws.owned m.place.0); above = λ h. (k.past, (k.above h).1) }

pub takes : (w : World) → IsWorld w → (old new : Core) (m : Key) (ready : Bool) (j i : ℕ) → InDelivery w old m ready → StepOf w old (Take j i) new → InDelivery w new m ready
takes w laws old new m ready j i k s =
    subst (λ (c : Core). InDelivery w c m ready) (sym s.5)
    (record {
      catching = take_catches w laws old m j i s.2 s.3 k.catching s.0 s.1 s.4;
      owner_past = owner_stays w old m j i s.2 s.3 laws k.catching s.0 s.4 k.owner_past;
      above = λ h.
          let a = k.above h in
          (take_past w old m j i s.2 s.3 s.0 s.1 s.4 a.1 a.0, take_above w old m j i s.2 s.3 s.0 s.1 s.4 a.1);
    })

-- The lag.
count_most : (f : ℕ → Bool) (n : ℕ) → sum_below (λ i. if f i then 0 else 1) n ≤ n
count_most f zero = omega arith
count_most f (suc n) = omega (arith, count_most f n, one (f n))
  where
    one : (t : Bool) → (if t then 0 else 1) ≤ 1
    one true = omega arith
    one false = omega arith

count_none : (f : ℕ → Bool) (n : ℕ) → ((i : ℕ) → i < n → f i ≡ true) → ◌≡◌ {A = ℕ} (sum_below (λ i. if f i then 0 else 1) n) 0
count_none f zero h = refl
count_none f (suc n) h =
    let last : ◌≡◌ {A = ℕ} (if f n then 0 else 1) 0 = ap (λ t. cond t 0 1) (h n (omega arith)) in
    omega (arith, count_none f n (λ i l. h i (omega (arith, l))), last)

count_some : (f : ℕ → Bool) (n i : ℕ) → i < n → f i ≡ false → 1 ≤ sum_below (λ i. if f i then 0 else 1) n
count_some f zero i l h = absurd (omega (arith, l))
count_some f (suc n) i l h =
    elim (eqb_tells i n) [
      | inl q ↦ let last : ◌≡◌ {A = ℕ} (if f n then 0 else 1) 1 = ap (λ t. cond t 0 1) (subst (λ x. f x ≡ false) q.1 h) in omega (arith, last)
      | inr q ↦ omega (arith, count_some f n i (omega (arith, l, q.1)) h)
    ]

-- A whole pass makes it less.
pub pass_falls : (w : World) (old new : Core) (m : Key) (i : ℕ) → i < w.regions → (old.part i).clock is_upto m → InDelivery w new m (is_past old m (w.owner m.place.0)) → lag w new m < lag w old m
pass_falls w old new m i inside behind k =
    let some : 1 ≤ sum_below (λ i. if is_past old m i then 0 else 1) w.regions = count_some (is_past old m) w.regions i inside behind in
    let now : ◌≡◌ {A = ℕ} (if is_past new m (w.owner m.place.0) then 0 else suc w.regions) 0 = ap (λ t. cond t 0 (suc w.regions)) k.owner_past in
    elim (cases_Bool (is_past old m (w.owner m.place.0))) [
      | inl ready ↦
          let none : ◌≡◌ {A = ℕ} (sum_below (λ i. if is_past new m i then 0 else 1) w.regions) 0 = count_none (is_past new m) w.regions (k.above ready).0 in
          omega (arith, some, now, none)
      | inr not_yet ↦
          let before : ◌≡◌ {A = ℕ} (if is_past old m (w.owner m.place.0) then 0 else suc w.regions) (suc w.regions) = ap (λ t. cond t 0 (suc w.regions)) not_yet in
          omega (arith, some, now, before, count_most (is_past new m) w.regions)
    ]

-- And after a second one no region is behind.
pub second_pass : (w : World) (mid new : Core) (m : Key) → m is_below (mid.part (w.owner m.place.0)).clock → InDelivery w new m (is_past mid m (w.owner m.place.0)) → ArePast new m w.regions
second_pass w mid new m ready k = (k.above ready).0

-- Where nothing at all is left, one pass brings all clocks to the end, and nothing is put.
pub none_no_next : (w : World) (base : List SiteState) (i : ℕ) (p : Part) (e : Event) → HasNoEntry w base i p → IsNextEntry w base i p e → ⊥
none_no_next w base i p e n x = none-some e (sym (n (key_of e) x.later (before x.in_time)) ∙ x.here)
  where
    before : e.time ≤ w.until → key_of e is_below end_key w
    before h = grind (arith, nat_tests)

abbrev pub IsEnding : World → Core → Type 0
IsEnding w c = ((i : ℕ) → i < w.regions → HasNoEntry w (base_of w c) i (c.part i)) × AreEmpty w c

pub ending_step : (w : World) (old new : Core) (i : ℕ) → i < w.regions → IsEnding w old → StepsOne w old i new → new ≡ with_part old i (at_end w (old.part i)) (λ _. [])
ending_step w old new i inside k s =
    elim s [
      | inl f ↦ absurd (none_no_next w (base_of w old) i (old.part i) f.1 (k.0 i inside) f.2)
      | inr p ↦ elim p.1 [
        | inl f ↦ absurd (none_no_next w (base_of w old) i (old.part i) f.0 (k.0 i inside) f.1)
        | inr f ↦ f.1
      ]
    ]

pub ending_keeps : (w : World) (old : Core) (i : ℕ) → i < w.regions → IsEnding w old → IsEnding w (with_part old i (at_end w (old.part i)) (λ _. []))
ending_keeps w old i inside k = (
  λ n h. elim (eqb_tells n i) [
    | inl q ↦ subst (λ t. HasNoEntry w (base_of w old) n (cond t (at_end w (old.part i)) (old.part n))) (sym q.0) (λ x c u. absurd (lt_not_le x (end_key w) u c))
    | inr q ↦ subst (λ t. HasNoEntry w (base_of w old) n (cond t (at_end w (old.part i)) (old.part n))) (sym q.0) (k.0 n h)
  ],
  λ j l a b. pick (j == i) (old.channel j l) (k.1 j l a b),
)
  where
    pick : (t : Bool) (xs : List Op) → xs ≡ [] → cond t (xs ++ []) xs ≡ []
    pick true xs h = ap (λ l. l ++ []) h
    pick false xs h = h
