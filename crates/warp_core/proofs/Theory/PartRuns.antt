-- Runs of one region, and what all regions leave together.
use Rattle.std.proofs.Common.{◌≡◌, ℕ, ◌<◌, List, [], ◌∷◌, ◌++◌, refl, sym, ap, ◌∙◌, Option, subst, cond, inl, inr}
use Rattle.std.proofs.lemmas.Bool.{cases_Bool, eqb-true}
use Rattle.std.proofs.lemmas.List.Elements.{filter_map-append}
use Rattle.surf_kinds.specs.declared.event.Event.{Event}
use Rattle.surf_kinds.specs.declared.site.SiteState.{SiteState}
use Rattle.surf_kinds.specs.declared.event.Key.{Key}
use Rattle.border.specs.declared.op.Op.{Op}
use Rattle.surf_kinds.specs.Keys.{key_of, keep, below, from, ◌is_upto◌}
use Rattle.border.specs.Messages.{replay, accepted_op}
use Rattle.warp_core.specs.Messages.{accepted_ops, partition_of}
use Rattle.plan.specs.History.{if_at}
use Rattle.warp_core.specs.World.{World, IsWorld, Agree, is_own, is_told_by, after_all}
use Rattle.warp_core.specs.Timelines.{due_at}
use Rattle.warp_core.specs.Parts.{Part, IsSound, IsNextEntry, HasNoEntry, received_at, PartStep, part_after, step_puts, step_takes, MayStep, part_run, run_puts, run_takes, MayRun, IsRun}
use Rattle.warp_core.specs.Cores.{Core, IsConsistent, base_of}
use Rattle.warp_core.proofs.Theory.Accepted.{take_stack}
use Rattle.border.proofs.LawLemmas.{replay_append}
use Rattle.warp_core.proofs.Theory.Locals.{agree_after_all, raised, rebased}
use Rattle.warp_core.proofs.Theory.Parts.{applied_sound, ended_sound, take_sound, fired_told, passed_told, take_told, fired_sent, take_sent}
use Rattle.warp_core.proofs.Theory.Joined.{joined, sent_append}

step_run : (w : World) → IsWorld w → (base : List SiteState) (floor : Key) (i : ℕ) (p : Part) (step : PartStep) → IsSound w base floor i p → MayStep w base i p step → IsRun w base floor i p (part_after w floor i p step) (step_takes step) (step_puts w floor i p step)
step_run w laws base floor i p (PartStep.Fires e) s m =
    record { stacks = λ j. refl; sound = applied_sound w base floor i p e s m.0; told = λ l h. fired_told w base floor i l p e s m.0 m.1; sent = λ l h. fired_sent w laws base floor i l p e s m.0 m.1 }
step_run w laws base floor i p (PartStep.Passes e) s m =
    record { stacks = λ j. refl; sound = applied_sound w base floor i p e s m.0; told = λ l h. passed_told w i l p e m.1; sent = λ l h. tt }
step_run w laws base floor i p PartStep.Ends s m =
    record { stacks = λ j. refl; sound = ended_sound w base floor i p s m; told = λ l h. refl; sent = λ l h. tt }
step_run w laws base floor i p (PartStep.Takes j op) s m =
    record { stacks = take_stack w floor i p j op; sound = take_sound w base floor i j p op s; told = λ l h. take_told w base floor i j l p op h s; sent = λ l h. take_sent w base floor i j l p op s }

-- each run of a sound part has the four facts
pub runs : (w : World) → IsWorld w → (base : List SiteState) (floor : Key) (i : ℕ) (p : Part) (steps : List PartStep) → IsSound w base floor i p → MayRun w base floor i p steps → IsRun w base floor i p (part_run w floor i p steps) (run_takes steps) (run_puts w floor i p steps)
runs w laws base floor i p [] s m = record { stacks = λ j. refl; sound = s; told = λ l h. refl; sent = λ l h. tt }
runs w laws base floor i p (step ∷ steps) s m =
    let one = step_run w laws base floor i p step s m.0 in
    let q = part_after w floor i p step in
    let rest = runs w laws base floor i q steps one.sound m.1 in
    record {
      stacks = λ j.
          rest.stacks j
          ∙ (ap (λ xs. replay xs (accepted_ops w j i floor (run_takes steps j))) (one.stacks j)
          ∙ (sym (replay_append (p.stack j) (accepted_ops w j i floor (step_takes step j)) (accepted_ops w j i floor (run_takes steps j)))
          ∙ ap (replay (p.stack j)) (sym (filter_map-append (accepted_op (partition_of w) j i floor) (step_takes step j) (run_takes steps j)))));
      sound = rest.sound;
      told = λ l h. replay_append (keep (is_told_by w i l) p.timeline) (step_puts w floor i p step l) (run_puts w floor i q steps l) ∙ (ap (λ xs. replay xs (run_puts w floor i q steps l)) (one.told l h) ∙ rest.told l h);
      sent = λ l h. sent_append w i l floor (step_puts w floor i p step l) (run_puts w floor i q steps l) (one.sent l h) (rest.sent l h);
    }

-- each region makes a run, and what was in a channel with what was put is what was taken with what is left
pub round_keeps : (w : World) → IsWorld w → (c : Core) (steps : ℕ → List PartStep) (chan : ℕ → ℕ → List Op) → IsConsistent w c
    → ((i : ℕ) → i < w.regions → MayRun w (base_of w c) c.horizon i (c.part i) (steps i))
    → ((j i : ℕ) → j < w.regions → i < w.regions → c.channel j i ++ run_puts w c.horizon j (c.part j) (steps j) i ≡ run_takes (steps i) j ++ chan j i)
    → IsConsistent w (record c { part = λ i. part_run w c.horizon i (c.part i) (steps i); channel = chan })
round_keeps w laws c steps chan k may flow =
    joined w c (record c { part = λ i. part_run w c.horizon i (c.part i) (steps i); channel = chan }) (λ i j. run_takes (steps i) j) (λ j i. run_puts w c.horizon j (c.part j) (steps j) i) k
    (record {
      horizon = refl;
      committed = refl;
      sound = λ i h. (run i h).sound;
      stacks = λ j i a b. (run i b).stacks j;
      told = λ j i a b. (run j a).told i b;
      sent = λ j i a b. (run j a).sent i b;
      channels = flow;
    })
  where
    run : (i : ℕ) → i < w.regions → IsRun w (base_of w c) c.horizon i (c.part i) (part_run w c.horizon i (c.part i) (steps i)) (run_takes (steps i)) (run_puts w c.horizon i (c.part i) (steps i))
    run i h = runs w laws (base_of w c) c.horizon i (c.part i) (steps i) (k.sound i h) (may i h)

-- what is due over one base is due over each that agrees with it
due_rebased : (w : World) → IsWorld w → (i : ℕ) (a b : List SiteState) (ins : Key → Option Event) (es : List Event) (k : Key) → Agree w i a b → due_at w (is_own w i) ins (after_all w a es) k ≡ due_at w (is_own w i) ins (after_all w b es) k
due_rebased w laws i a b ins es k p =
    elim (cases_Bool (is_own w i k)) [
      | inl q ↦ ap (λ o. cond (is_own w i k) (if_at k o) (ins k)) (laws.same_next k.place.0 _ _ (subst (λ j. Agree w j (after_all w a es) (after_all w b es)) (sym (eqb-true (w.owner k.place.0) i q)) (agree_after_all w laws i es a b p)))
      | inr q ↦ ap (λ t. cond t (if_at k (w.next k.place.0 (after_all w a es))) (ins k)) q ∙ sym (ap (λ t. cond t (if_at k (w.next k.place.0 (after_all w b es))) (ins k)) q)
    ]

pub next_rebased : (w : World) → IsWorld w → (i : ℕ) (a b : List SiteState) (p : Part) (e : Event) → Agree w i a b → IsNextEntry w a i p e → IsNextEntry w b i p e
next_rebased w laws i a b p e h n =
    record {
      later = n.later;
      in_time = n.in_time;
      here = sym (due_rebased w laws i a b (received_at w p) p.timeline (key_of e) h) ∙ n.here;
      first = λ k c u. sym (due_rebased w laws i a b (received_at w p) p.timeline k h) ∙ n.first k c u;
    }

pub none_rebased : (w : World) → IsWorld w → (i : ℕ) (a b : List SiteState) (p : Part) → Agree w i a b → HasNoEntry w a i p → HasNoEntry w b i p
none_rebased w laws i a b p h n k c u = sym (due_rebased w laws i a b (received_at w p) p.timeline k h) ∙ n k c u

-- a part that is sound for one base is sound for each that agrees with it at the sites that the region sees
pub sound_rebased : (w : World) → IsWorld w → (i : ℕ) (a b : List SiteState) (floor : Key) (p : Part) → Agree w i a b → IsSound w a floor i p → IsSound w b floor i p
sound_rebased w laws i a b floor p h s = record { low = s.low; high = s.high; local = rebased w laws i a b floor (received_at w p) p.clock p.timeline h s.local }

-- a part whose floor moves to a key that is at most its clock, and that forgets the entries below it, is sound for the surface after these
pub sound_raised : (w : World) (i : ℕ) (base : List SiteState) (floor k : Key) (p : Part) → floor is_upto k → k is_upto p.clock → IsSound w base floor i p → IsSound w (after_all w base (below k p.timeline)) k i (record p { timeline = from k p.timeline })
sound_raised w i base floor k p h under s = record { low = under; high = s.high; local = raised w (is_own w i) base floor k (received_at w p) p.clock p.timeline h s.local }

step_rebased : (w : World) → IsWorld w → (a b : List SiteState) (i : ℕ) (p : Part) (step : PartStep) → Agree w i a b → MayStep w a i p step → MayStep w b i p step
step_rebased w laws a b i p (PartStep.Fires e) h m = (next_rebased w laws i a b p e h m.0, m.1)
step_rebased w laws a b i p (PartStep.Passes e) h m = (next_rebased w laws i a b p e h m.0, m.1)
step_rebased w laws a b i p PartStep.Ends h m = none_rebased w laws i a b p h m
step_rebased w laws a b i p (PartStep.Takes j op) h m = m

-- a run over one base is one over each that agrees with it
pub run_rebased : (w : World) → IsWorld w → (a b : List SiteState) (floor : Key) (i : ℕ) (p : Part) (steps : List PartStep) → Agree w i a b → MayRun w a floor i p steps → MayRun w b floor i p steps
run_rebased w laws a b floor i p [] h m = tt
run_rebased w laws a b floor i p (step ∷ steps) h m = (step_rebased w laws a b i p step h m.0, run_rebased w laws a b floor i (part_after w floor i p step) steps h m.1)
