-- Each Take makes the load less, so a delivery of all messages ends.
use Rattle.std.proofs.Common.{◌≡◌, ℕ, zero, suc, ◌+◌, ◌<◌, ◌≤◌, Bool, ◌==◌, ◌&&◌, List, [], ◌∷◌, ◌++◌, Option, Some, None, inl, inr, refl, sym, ap, ◌∙◌, subst, arith, cond}
use Rattle.std.specs.Prelude.{not, length}
use Rattle.std.proofs.lemmas.Bool.{cases_Bool, not_from_true, not_from_false}
use Rattle.std.proofs.lemmas.Bool.Decides.{eqb_tells}
use Rattle.std.proofs.lemmas.List.{length-append}
use Rattle.surf_kinds.specs.declared.event.Key.{Key}
use Rattle.surf_kinds.specs.declared.event.Event.{Event}
use Rattle.border.specs.declared.op.Op.{Op}
use Rattle.border.specs.Messages.{op_key, accepted_op}
use Rattle.surf_kinds.specs.Keys.{is_before, key_of, keep, below, from}
use Rattle.std.specs.Option.{option_map_or}
use Rattle.warp_core.specs.World.{World, is_own, is_told_by}
use Rattle.warp_core.specs.Messages.{partition_of}
use Rattle.warp_core.specs.Parts.{Part, after_op, after_take, is_told_to_some, back_if_any, op_puts, take_puts}
use Rattle.warp_core.specs.Cores.{Core}
use Rattle.warp_core.specs.Steps.{StepOf, with_part, with_channel}
use Rattle.warp_core.specs.declared.step.Step.TheVariants.{Take}
use Rattle.warp_core.specs.Settling.{sum_below, pair_load, load}
use Rattle.surf_kinds.proofs.Tables.{keep_yes, keep_no}

pub sum_le : (f g : ℕ → ℕ) (n : ℕ) → ((k : ℕ) → f k ≤ g k) → sum_below f n ≤ sum_below g n
sum_le f g zero h = omega arith
sum_le f g (suc n) h = omega (arith, sum_le f g n h, h n)

pub sum_lt : (f g : ℕ → ℕ) (n k : ℕ) → ((k : ℕ) → f k ≤ g k) → k < n → f k < g k → sum_below f n < sum_below g n
sum_lt f g zero k h l s = absurd (omega (arith, l))
sum_lt f g (suc n) k h l s =
    elim (eqb_tells k n) [
      | inl q ↦ let here : f n < g n = subst (λ x. f x < g x) q.1 s in omega (arith, sum_le f g n h, here)
      | inr q ↦ omega (arith, sum_lt f g n k h (omega (arith, l, q.1)) s, h n)
    ]

-- a cut splits what is kept
split_count : (t : Key → Bool) (k : Key) (es : List Event) → length (keep t es) ≡ length (keep t (below k es)) + length (keep t (from k es))
split_count t k [] = refl
split_count t k (e ∷ es) =
    let rest = split_count t k es in
    elim (cases_Bool (t (key_of e))) [
      | inl p ↦
          let whole : length (keep t (e ∷ es)) ≡ suc (length (keep t es)) = ap length (keep_yes t e es p) in
          elim (cases_Bool (is_before (key_of e) k)) [
            | inl u ↦
                let low : length (keep t (below k (e ∷ es))) ≡ suc (length (keep t (below k es))) = ap (λ l. length (keep t l)) (keep_yes (λ j. is_before j k) e es u) ∙ ap length (keep_yes t e (below k es) p) in
                let high : length (keep t (from k (e ∷ es))) ≡ length (keep t (from k es)) = ap (λ l. length (keep t l)) (keep_no (λ j. not (is_before j k)) e es (not_from_true (is_before (key_of e) k) u)) in
                omega (arith, rest, whole, low, high)
            | inr u ↦
                let low : length (keep t (below k (e ∷ es))) ≡ length (keep t (below k es)) = ap (λ l. length (keep t l)) (keep_no (λ j. is_before j k) e es u) in
                let high : length (keep t (from k (e ∷ es))) ≡ suc (length (keep t (from k es))) = ap (λ l. length (keep t l)) (keep_yes (λ j. not (is_before j k)) e es (not_from_false (is_before (key_of e) k) u)) ∙ ap length (keep_yes t e (from k es) p) in
                omega (arith, rest, whole, low, high)
          ]
      | inr p ↦
          let whole : length (keep t (e ∷ es)) ≡ length (keep t es) = ap length (keep_no t e es p) in
          elim (cases_Bool (is_before (key_of e) k)) [
            | inl u ↦
                let low : length (keep t (below k (e ∷ es))) ≡ length (keep t (below k es)) = ap (λ l. length (keep t l)) (keep_yes (λ j. is_before j k) e es u) ∙ ap length (keep_no t e (below k es) p) in
                let high : length (keep t (from k (e ∷ es))) ≡ length (keep t (from k es)) = ap (λ l. length (keep t l)) (keep_no (λ j. not (is_before j k)) e es (not_from_true (is_before (key_of e) k) u)) in
                omega (arith, rest, whole, low, high)
            | inr u ↦
                let low : length (keep t (below k (e ∷ es))) ≡ length (keep t (below k es)) = ap (λ l. length (keep t l)) (keep_no (λ j. is_before j k) e es u) in
                let high : length (keep t (from k (e ∷ es))) ≡ length (keep t (from k es)) = ap (λ l. length (keep t l)) (keep_yes (λ j. not (is_before j k)) e es (not_from_false (is_before (key_of e) k) u)) ∙ ap length (keep_no t e (from k es) p) in
                omega (arith, rest, whole, low, high)
          ]
    ]

-- a Back is put only where something was cut
back_count : (xs ys : List Event) → length (back_if_any xs ys) ≤ length xs
back_count [] ys = omega arith
back_count (x ∷ xs) [] = omega arith
back_count (x ∷ xs) (y ∷ ys) = omega arith

-- what a Take cuts of the events that region l is told of pays for its Back
pub cut_pays : (w : World) (i j l : ℕ) (p : Part) (op : Op) → length (keep (is_told_by w i l) (after_op p j op).timeline) + length (op_puts w i p op l) ≤ length (keep (is_told_by w i l) p.timeline)
cut_pays w i j l p op =
    elim (cases_Bool (is_before (op_key op) p.clock)) [
      | inl h ↦ subst Says (sym h) (omega (arith, split_count (is_told_by w i l) (op_key op) p.timeline, back_count (keep (is_told_by w i l) (from (op_key op) p.timeline)) (keep (λ k. is_own w i k && is_told_to_some w.told w.regions k.place.0) (from (op_key op) p.timeline))))
      | inr h ↦ subst Says (sym h) (omega arith)
    ]
  where
    Says : Bool → Type 0
    Says b =
        length (keep (is_told_by w i l) (cond b (below (op_key op) p.timeline) p.timeline))
        + length (cond b (back_if_any (keep (is_told_by w i l) (from (op_key op) p.timeline)) (keep (λ k. is_own w i k && is_told_to_some w.told w.regions k.place.0) (from (op_key op) p.timeline))) [])
        ≤ length (keep (is_told_by w i l) p.timeline)

-- the same of a message, whatever it is taken for
pub take_pays : (w : World) (floor : Key) (i j l : ℕ) (p : Part) (op : Op) → length (keep (is_told_by w i l) (after_take w floor i p j op).timeline) + length (take_puts w floor i p j op l) ≤ length (keep (is_told_by w i l) p.timeline)
take_pays w floor i j l p op = by (accepted_op (partition_of w) j i floor op)
  where
    by : (o : Option Op) → length (keep (is_told_by w i l) (option_map_or (after_op p j) o p).timeline) + length (option_map_or (λ a. op_puts w i p a l) o []) ≤ length (keep (is_told_by w i l) p.timeline)
    by None = omega arith
    by (Some a) = cut_pays w i j l p a

module _ (w : World) (c : Core) (j i : ℕ) (op : Op) (rest : List Op) (first : c.channel j i ≡ op ∷ rest) where
  -- the channel that a message left
  drained_le : (a b : ℕ) → length ((with_channel c j i rest).channel a b) ≤ length (c.channel a b)
  drained_le a b =
      elim (eqb_tells a j) [
        | inr p ↦ subst (λ t. length (cond (t && (b == i)) rest (c.channel a b)) ≤ length (c.channel a b)) (sym p.0) (omega arith)
        | inl p ↦ elim (eqb_tells b i) [
          | inr q ↦ subst (λ t. length (cond (t && (b == i)) rest (c.channel a b)) ≤ length (c.channel a b)) (sym p.0) (subst (λ t. length (cond t rest (c.channel a b)) ≤ length (c.channel a b)) (sym q.0) (omega arith))
          | inl q ↦
              let same : length (c.channel a b) ≡ suc (length rest) = ap length (ap (λ n. c.channel n b) p.1 ∙ (ap (c.channel j) q.1 ∙ first)) in
              subst (λ t. length (cond (t && (b == i)) rest (c.channel a b)) ≤ length (c.channel a b)) (sym p.0) (subst (λ t. length (cond t rest (c.channel a b)) ≤ length (c.channel a b)) (sym q.0) (omega (arith, same)))
        ]
      ]

  drained_lt : length ((with_channel c j i rest).channel j i) < length (c.channel j i)
  drained_lt =
      let one = Rattle.std.proofs.lemmas.Bool.eq-eqb j j refl in
      let two = Rattle.std.proofs.lemmas.Bool.eq-eqb i i refl in
      subst (λ t. length (cond (t && (i == i)) rest (c.channel j i)) < length (c.channel j i)) (sym one)
      (subst (λ t. length (cond t rest (c.channel j i)) < length (c.channel j i)) (sym two) (let same : length (c.channel j i) ≡ suc (length rest) = ap length first in omega (arith, same)))

  -- per pair: no more than what the with_channel channel has less
  pair_of : (a b : ℕ) → pair_load w (with_part (with_channel c j i rest) i (after_take w c.horizon i (c.part i) j op) (take_puts w c.horizon i (c.part i) j op)) a b + length (c.channel a b) ≤ pair_load w c a b + length ((with_channel c j i rest).channel a b)
  pair_of a b =
      elim (eqb_tells a i) [
        | inr p ↦ subst Says (sym p.0) (omega arith)
        | inl p ↦ subst Says (sym p.0)
            (let pays : length (keep (is_told_by w a b) (after_take w c.horizon i (c.part i) j op).timeline) + length (take_puts w c.horizon i (c.part i) j op b) ≤ length (keep (is_told_by w a b) (c.part a).timeline) =
            subst (λ n. length (keep (is_told_by w n b) (after_take w c.horizon i (c.part i) j op).timeline) + length (take_puts w c.horizon i (c.part i) j op b) ≤ length (keep (is_told_by w n b) (c.part n).timeline)) (sym p.1) (take_pays w c.horizon i j b (c.part i) op) in
            omega (arith, pays, length-append ((with_channel c j i rest).channel a b) (take_puts w c.horizon i (c.part i) j op b)))
      ]
    where
      Says : Bool → Type 0
      Says t =
          length (keep (is_told_by w a b) (cond t (after_take w c.horizon i (c.part i) j op) (c.part a)).timeline)
          + length (cond t ((with_channel c j i rest).channel a b ++ take_puts w c.horizon i (c.part i) j op b) ((with_channel c j i rest).channel a b))
          + length (c.channel a b)
          ≤ length (keep (is_told_by w a b) (c.part a).timeline) + length (c.channel a b) + length ((with_channel c j i rest).channel a b)

  pub load_falls : j < w.regions → i < w.regions → load w (with_part (with_channel c j i rest) i (after_take w c.horizon i (c.part i) j op) (take_puts w c.horizon i (c.part i) j op)) < load w c
  load_falls from_j inside =
      let new = with_part (with_channel c j i rest) i (after_take w c.horizon i (c.part i) j op) (take_puts w c.horizon i (c.part i) j op) in
      let each : (a b : ℕ) → pair_load w new a b ≤ pair_load w c a b = λ a b. omega (arith, pair_of a b, drained_le a b) in
      sum_lt (λ a. sum_below (pair_load w new a) w.regions) (λ a. sum_below (pair_load w c a) w.regions) w.regions j
      (λ a. sum_le (pair_load w new a) (pair_load w c a) w.regions (each a)) from_j
      (sum_lt (pair_load w new j) (pair_load w c j) w.regions i (each j) inside (omega (arith, pair_of j i, drained_lt)))

-- each Take makes the load less
pub take_falls : (w : World) (old new : Core) (j i : ℕ) → StepOf w old (Take j i) new → load w new < load w old
take_falls w old new j i s = subst (λ (c : Core). load w c < load w old) (sym s.5) (load_falls w old j i s.2 s.3 s.4 s.0 s.1)
