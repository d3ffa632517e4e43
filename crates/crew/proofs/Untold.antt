-- A region puts nothing for another one that is told of none of its events, so nothing is ever on its way between them.
use Rattle.std.proofs.Common.{◌≡◌, ℕ, ◌==◌, ◌&&◌, ◌<◌, inl, inr, Bool, true, false, List, [], ◌∷◌, ◌++◌, length, refl, sym, ap, ◌∙◌, subst, arith, cond, Option, Some, None}
use Rattle.std.specs.Option.{option_map_or}
use Rattle.std.proofs.lemmas.Bool.{cases_Bool, eqb-true}
use Rattle.std.proofs.lemmas.Bool.Decides.{eqb_tells}
use Rattle.surf_kinds.specs.declared.event.Event.{Event}
use Rattle.surf_kinds.specs.declared.event.Key.{Key}
use Rattle.surf_kinds.specs.declared.site.SiteState.{SiteState}
use Rattle.surf_kinds.specs.Keys.{is_before, key_of, keep, from}
use Rattle.surf_kinds.proofs.Tables.{keep_none, all_keys}
use Rattle.border.specs.declared.op.Op.{Op}
use Rattle.border.specs.declared.op.Op.TheVariants.{Put}
use Rattle.border.specs.Messages.{op_key, accepted_op}
use Rattle.warp_core.specs.World.{World, is_own, is_told_by}
use Rattle.warp_core.specs.Messages.{partition_of}
use Rattle.warp_core.specs.Parts.{Part, PartStep, fire_puts, back_if_any, is_told_to_some, op_puts, take_puts, step_puts, run_puts, part_after, MayRun, with_entry, at_end, after_take}
use Rattle.warp_core.specs.Cores.{Core}
use Rattle.warp_core.specs.Steps.{StepOf, with_part, with_channel}
use Rattle.warp_core.specs.declared.step.Step.{Step}
use Rattle.warp_core.specs.Settling.{StepsOne}
use Rattle.crew.specs.Crews.{IsUntold, AreUntoldEmpty}

module _ (w : World) (i l : ℕ) (untold : IsUntold w i l) where
  told_none : (k : Key) → is_told_by w i l k ≡ false
  told_none k =
      elim (cases_Bool (is_own w i k)) [
        | inl own ↦ ap (λ t. t && w.told l k.place.0) own ∙ untold k.place.0 (eqb-true (w.owner k.place.0) i own)
        | inr other ↦ ap (λ t. t && w.told l k.place.0) other
      ]

  fires_none : (e : Event) → is_own w i (key_of e) ≡ true → fire_puts w.told e l ≡ []
  fires_none e own = ap (λ t. cond {A = List Op} t (Put e ∷ []) []) (untold e.place.0 (eqb-true (w.owner e.place.0) i own))

  op_none : (p : Part) (op : Op) → op_puts w i p op l ≡ []
  op_none p op =
      let kept : keep (is_told_by w i l) (from (op_key op) p.timeline) ≡ [] = keep_none (is_told_by w i l) (from (op_key op) p.timeline) (all_keys (λ k. is_told_by w i l k ≡ false) told_none (from (op_key op) p.timeline)) in
      let all : List Event = keep (λ k. is_own w i k && is_told_to_some w.told w.regions k.place.0) (from (op_key op) p.timeline) in
      both (is_before (op_key op) p.clock) (back_if_any (keep (is_told_by w i l) (from (op_key op) p.timeline)) all) (ap (λ xs. back_if_any xs all) kept)
    where
      both : (t : Bool) (xs : List Op) → xs ≡ [] → cond t xs [] ≡ []
      both true xs h = h
      both false xs h = refl

  pub take_none : (floor : Key) (p : Part) (j : ℕ) (op : Op) → take_puts w floor i p j op l ≡ []
  take_none floor p j op = by (accepted_op (partition_of w) j i floor op)
    where
      by : (o : Option Op) → option_map_or (λ accepted. op_puts w i p accepted l) o [] ≡ []
      by None = refl
      by (Some accepted) = op_none p accepted

  pub run_none : (base : List SiteState) (floor : Key) (p : Part) (steps : List PartStep) → MayRun w base floor i p steps → run_puts w floor i p steps l ≡ []
  run_none base floor p [] may = refl
  run_none base floor p (PartStep.Fires e ∷ steps) may = ap (λ xs. xs ++ run_puts w floor i (part_after w floor i p (PartStep.Fires e)) steps l) (fires_none e may.0.1) ∙ run_none base floor (part_after w floor i p (PartStep.Fires e)) steps may.1
  run_none base floor p (PartStep.Passes e ∷ steps) may = run_none base floor (part_after w floor i p (PartStep.Passes e)) steps may.1
  run_none base floor p (PartStep.Ends ∷ steps) may = run_none base floor (part_after w floor i p PartStep.Ends) steps may.1
  run_none base floor p (PartStep.Takes j op ∷ steps) may = ap (λ xs. xs ++ run_puts w floor i (part_after w floor i p (PartStep.Takes j op)) steps l) (take_none floor p j op) ∙ run_none base floor (part_after w floor i p (PartStep.Takes j op)) steps may.1

-- a region has another part, and puts nothing for those that it doesn't tell
part_stays : (w : World) (c : Core) (i : ℕ) (p : Part) (puts : ℕ → List Op) → ((l : ℕ) → l < w.regions → IsUntold w i l → puts l ≡ []) → AreUntoldEmpty w c → AreUntoldEmpty w (with_part c i p puts)
part_stays w c i p puts none quiet a b ha hb untold =
    elim (eqb_tells a i) [
      | inl e ↦
          ap (λ t. cond t (c.channel a b ++ puts b) (c.channel a b)) e.0
          ∙ (ap (λ xs. xs ++ puts b) (quiet a b ha hb untold) ∙ none b hb (subst (λ m. IsUntold w m b) e.1 untold))
      | inr e ↦ ap (λ t. cond t (c.channel a b ++ puts b) (c.channel a b)) e.0 ∙ quiet a b ha hb untold
    ]

pub take_stays : (w : World) (old new : Core) (j i : ℕ) → StepOf w old (Step.Take j i) new → AreUntoldEmpty w old → AreUntoldEmpty w new
take_stays w old new j i s quiet =
    let op = s.2 in
    let rest = s.3 in
    subst (λ (c : Core). AreUntoldEmpty w c) (sym s.5)
    (part_stays w (with_channel old j i rest) i (after_take w old.horizon i (old.part i) j op) (take_puts w old.horizon i (old.part i) j op) (λ l h untold. take_none w i l untold old.horizon (old.part i) j op)
    (λ a b ha hb untold. elim (eqb_tells a j) [
      | inr p ↦ ap (λ t. cond (t && (b == i)) rest (old.channel a b)) p.0 ∙ quiet a b ha hb untold
      | inl p ↦ elim (eqb_tells b i) [
        | inr q ↦ ap (λ t. cond (t && (b == i)) rest (old.channel a b)) p.0 ∙ (ap (λ t. cond t rest (old.channel a b)) q.0 ∙ quiet a b ha hb untold)
        | inl q ↦
            let none : op ∷ rest ≡ [] = sym s.4 ∙ (ap (λ x. old.channel x i) (sym p.1) ∙ (ap (old.channel a) (sym q.1) ∙ quiet a b ha hb untold)) in
            absurd (omega (arith, ap (λ (xs : List Op). length xs) none))
      ]
    ]))

pub one_stays : (w : World) (old new : Core) (i : ℕ) → StepsOne w old i new → AreUntoldEmpty w old → AreUntoldEmpty w new
one_stays w old new i s quiet =
    elim s [
      | inl f ↦ subst (λ (c : Core). AreUntoldEmpty w c) (sym f.4) (part_stays w old i (with_entry (old.part i) f.1) (fire_puts w.told f.1) (λ l h untold. fires_none w i l untold f.1 f.3) quiet)
      | inr p ↦ elim p.1 [
        | inl e ↦ subst (λ (c : Core). AreUntoldEmpty w c) (sym e.3) (part_stays w old i (with_entry (old.part i) e.0) (λ _. []) (λ l h untold. refl) quiet)
        | inr n ↦ subst (λ (c : Core). AreUntoldEmpty w c) (sym n.1) (part_stays w old i (at_end w (old.part i)) (λ _. []) (λ l h untold. refl) quiet)
      ]
    ]
