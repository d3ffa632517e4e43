-- Every step, and every list of steps.
use Rattle.std.proofs.Common.{◌≡◌, List, [], ◌∷◌, ◌++◌, inl, inr, sym, ap, ◌∙◌, subst, append-nil, append_assoc}
use Rattle.surf_kinds.specs.declared.event.Event.{Event}
use Rattle.surf_kinds.specs.Keys.{below}
use Rattle.warp_core.specs.World.{World, IsWorld}
use Rattle.warp_core.specs.Cores.{Core, IsConsistent, first_core}
use Rattle.warp_core.specs.Steps.{StepOf, StepsOf, IsPrefixOf, own_events_below}
use Rattle.warp_core.specs.declared.step.Step.{Step}
use Rattle.warp_core.specs.declared.step.Step.TheVariants.{Fire, Pass, Take, Commit}
use Rattle.warp_core.proofs.Theory.Moves.{fire_keeps, pass_keeps, end_keeps, take_keeps, first_consistent}
use Rattle.warp_core.proofs.Theory.Commits.{commit_keeps}

pub step_keeps : (w : World) → IsWorld w → (old new : Core) (step : Step) → IsConsistent w old → StepOf w old step new → IsConsistent w new
step_keeps w laws old new (Fire i) k s = subst (IsConsistent w) (sym s.4) (fire_keeps w laws old i s.1 k s.0 s.2 s.3)
step_keeps w laws old new (Pass i) k s =
    elim s.1 [
      | inl p ↦ subst (IsConsistent w) (sym p.3) (pass_keeps w old i p.0 k s.0 p.1 p.2)
      | inr p ↦ subst (IsConsistent w) (sym p.1) (end_keeps w old i k s.0 p.0)
    ]
step_keeps w laws old new (Take j i) k s = subst (IsConsistent w) (sym s.5) (take_keeps w old j i s.2 s.3 k s.0 s.1 s.4)
step_keeps w laws old new (Commit key) k s = subst (IsConsistent w) (sym s.1) (commit_keeps w laws old key k s.0)

pub step_grows : (w : World) (old new : Core) (step : Step) → StepOf w old step new → IsPrefixOf old.committed new.committed
step_grows w old new (Fire i) s = ([], ap (λ (c : Core). c.committed) s.4 ∙ sym (append-nil old.committed))
step_grows w old new (Pass i) s =
    ([], elim s.1 [ inl p ↦ ap (λ (c : Core). c.committed) p.3 | inr p ↦ ap (λ (c : Core). c.committed) p.1 ] ∙ sym (append-nil old.committed))
step_grows w old new (Take j i) s = ([], ap (λ (c : Core). c.committed) s.5 ∙ sym (append-nil old.committed))
step_grows w old new (Commit key) s = (own_events_below w old key w.regions, ap (λ (c : Core). c.committed) s.1)

pub steps_keep : (w : World) → IsWorld w → (old new : Core) (steps : List Step) → IsConsistent w old → StepsOf w old steps new → IsConsistent w new
steps_keep w laws old new [] k s = subst (IsConsistent w) (sym s) k
steps_keep w laws old new (step ∷ steps) k s = steps_keep w laws s.0 new steps (step_keeps w laws old s.0 step k s.1) s.2

pub grows_more : (xs ys zs : List Event) → IsPrefixOf xs ys → IsPrefixOf ys zs → IsPrefixOf xs zs
grows_more xs ys zs p q = (p.0 ++ q.0, q.1 ∙ (ap (λ l. l ++ q.0) p.1 ∙ append_assoc xs p.0 q.0))

pub steps_grow : (w : World) (old new : Core) (steps : List Step) → StepsOf w old steps new → IsPrefixOf old.committed new.committed
steps_grow w old new [] s = ([], ap (λ (c : Core). c.committed) s ∙ sym (append-nil old.committed))
steps_grow w old new (step ∷ steps) s = grows_more old.committed s.0.committed new.committed (step_grows w old s.0 step s.1) (steps_grow w s.0 new steps s.2)

-- from the first configuration, whatever the steps
pub core_law : (w : World) → IsWorld w → (steps : List Step) (new : Core) → StepsOf w first_core steps new → IsConsistent w new
core_law w laws steps new s = steps_keep w laws first_core new steps (first_consistent w) s

pub committed_law : (w : World) → IsWorld w → (steps : List Step) (new : Core) → StepsOf w first_core steps new → new.committed ≡ below new.horizon w.history
committed_law w laws steps new s = (core_law w laws steps new s).committed
