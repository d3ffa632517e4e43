-- Steps that are tried one after the other.
use Rattle.std.proofs.Common.{◌≡◌, ℕ, ◌+◌, inl, inr, List, [], ◌∷◌, ◌++◌, length, refl, sym, ap, ◌∙◌, subst, arith, Ok, Err, append-nil, add-zero, add-one, ◌<◌, ◌≤◌, take, slice_index_or}
use Rattle.std.proofs.Math.Seq.{take-suc}
use Rattle.warp_core.specs.Tried.{count_of}
use Rattle.std.specs.Prelude.{Result}
use Rattle.surf_kinds.specs.declared.status.NoMemory.{NoMemory}
use Rattle.warp_core.specs.World.{World}
use Rattle.warp_core.specs.Cores.{Core}
use Rattle.warp_core.specs.Steps.{StepOf, IsPrefixOf}
use Rattle.warp_core.specs.Configs.{Makes, Tries}
use Rattle.warp_core.specs.declared.step.Step.{Step}
use Rattle.warp_core.specs.declared.step.Did.{Did}
use Rattle.warp_core.specs.declared.step.Did.TheVariants.{Done, NotNow}
use Rattle.warp_core.proofs.Theory.Runs.{step_grows}

same_grows : (old new : Core) → new ≡ old → IsPrefixOf old.committed new.committed
same_grows old new h = ([], ap (λ (c : Core). c.committed) h ∙ sym (append-nil old.committed))

-- whatever a call of step answers, the committed list only grows
pub makes_grows : (w : World) (old : Core) (step : Step) (result : Result Did NoMemory) (new : Core) → Makes w old step result new → IsPrefixOf old.committed new.committed
makes_grows w old step (Ok Done) new m = step_grows w old new step m
makes_grows w old step (Ok NotNow) new m = same_grows old new m.0
makes_grows w old step (Err e) new m = same_grows old new m

pub tries_done : (w : World) (old : Core) (steps : List Step) (n : ℕ) (mid : Core) (step : Step) (new : Core) → Tries w old steps n mid → StepOf w mid step new → Tries w old (steps ++ step ∷ []) (n + 1) new
tries_done w old [] n mid step new t s = inl (new, 0, subst (λ c. StepOf w c step new) t.0 s, omega (arith, t.1), (refl, refl))
tries_done w old (x ∷ steps) n mid step new (inl t) s = inl (t.0, t.1 + 1, t.2, omega (arith, t.3), tries_done w t.0 steps t.1 mid step new t.4 s)
tries_done w old (x ∷ steps) n mid step new (inr t) s = inr (t.0, tries_done w old steps n mid step new t.1 s)

pub tries_not : (w : World) (old : Core) (steps : List Step) (n : ℕ) (mid : Core) (step : Step) → Tries w old steps n mid → ((any : Core) → StepOf w mid step any → ⊥) → Tries w old (steps ++ step ∷ []) n mid
tries_not w old [] n mid step t s = inr (subst (λ (c : Core). (any : Core) → StepOf w c step any → ⊥) t.0 s, t)
tries_not w old (x ∷ steps) n mid step (inl t) s = inl (t.0, t.1, t.2, t.3, tries_not w t.0 steps t.1 mid step t.4 s)
tries_not w old (x ∷ steps) n mid step (inr t) s = inr (t.0, tries_not w old steps n mid step t.1 s)

pub tries_more : (w : World) (old : Core) (steps : List Step) (n : ℕ) (mid : Core) (step : Step) (did : Did) (new : Core) → Tries w old steps n mid → Makes w mid step (Ok did) new → Tries w old (steps ++ step ∷ []) (n + count_of did) new
tries_more w old steps n mid step Done new t m = tries_done w old steps n mid step new t m
tries_more w old steps n mid step NotNow new t m = subst (λ k. Tries w old (steps ++ step ∷ []) k new) (sym (add-zero n)) (subst (Tries w old (steps ++ step ∷ []) n) (sym m.0) (tries_not w old steps n mid step t m.1))

-- a step more, taken from a list
pub tries_next : (w : World) (old : Core) (steps : List Step) (i n : ℕ) (mid : Core) (step d : Step) (did : Did) (new : Core) → Tries w old (take i steps) n mid → i < length steps → step ≡ slice_index_or steps i d → Makes w mid step (Ok did) new → Tries w old (take (i + 1) steps) (n + count_of did) new
tries_next w old steps i n mid step d did new t h is m =
    subst (λ l. Tries w old l (n + count_of did) new) (sym (rw add-one (take-suc steps i d h ∙ ap (λ x. take i steps ++ x ∷ []) (sym is)))) (tries_more w old (take i steps) n mid step did new t m)

pub count_few : (did : Did) → count_of did ≤ 1
count_few Done = omega (arith)
count_few NotNow = omega (arith)
