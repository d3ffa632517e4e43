-- The steps of the core.
use Rattle.std.specs.Prelude.{ℕ, zero, suc, ◌<◌, ◌&&◌, ◌==◌, ◌≡◌, true, false, List, [], ◌∷◌, ◌++◌, if◌then◌else◌, ◌⊎◌}
use Rattle.surf_kinds.specs.declared.event.Key.{Key}
use Rattle.surf_kinds.specs.declared.event.Event.{Event}
use Rattle.surf_kinds.specs.Keys.{is_before, key_of, keep, below, from, ◌is_upto◌}
use Rattle.border.specs.declared.op.Op.{Op}
use Rattle.warp_core.specs.World.{World, is_own}
use Rattle.border.specs.Messages.{AllOpsFrom}
use Rattle.warp_core.specs.Parts.{Part, IsNextEntry, HasNoEntry, with_entry, at_end, after_take, fire_puts, take_puts}
use Rattle.warp_core.specs.Cores.{Core, base_of}
use Rattle.warp_core.specs.declared.step.Step.{Step}
use Rattle.warp_core.specs.declared.step.Step.TheVariants.{Fire, Pass, Take, Commit}

-- region i has a new part, and these messages go last into its channels
abbrev pub with_part : Core → ℕ → Part → (ℕ → List Op) → Core
with_part c i p puts =
    record c {
      part = λ k. if k == i then p else c.part k;
      channel = λ j l. if j == i then c.channel j l ++ puts l else c.channel j l;
    }

-- the channel from j to i has these messages
abbrev pub with_channel : Core → ℕ → ℕ → List Op → Core
with_channel c j i ops = record c { channel = λ a b. if a == j && b == i then ops else c.channel a b }

-- the list with an event at its key's place
abbrev pub with_event : Event → List Event → List Event
with_event e es = below (key_of e) es ++ e ∷ keep (λ j. is_before (key_of e) j) es

abbrev pub with_events : List Event → List Event → List Event
with_events [] fs = fs
with_events (e ∷ es) fs = with_event e (with_events es fs)

-- the own events below a key of the first n regions, by key
abbrev pub own_events_below : World → Core → Key → ℕ → List Event
own_events_below w c k zero = []
own_events_below w c k (suc n) = with_events (keep (is_own w n) (below k (c.part n).timeline)) (own_events_below w c k n)

-- the committed events gain the own events below the key, the timelines lose all entries below it, and it is the horizon
abbrev pub after_commit : World → Core → Key → Core
after_commit w c k =
    record c {
      horizon = k;
      committed = c.committed ++ own_events_below w c k w.regions;
      part = λ i. record { timeline = from k (c.part i).timeline; clock = (c.part i).clock; stack = (c.part i).stack };
    }

-- the key is from the horizon on, and at most every clock and the key of every message
pub record MayCommit (w : World) (c : Core) (k : Key) : Type 0 where
  pub from_horizon : c.horizon is_upto k
  pub clocks : (i : ℕ) → i < w.regions → k is_upto (c.part i).clock
  pub messages : (j i : ℕ) → j < w.regions → i < w.regions → AllOpsFrom k (c.channel j i)

-- The step's condition holds of old, and new is its effect.
abbrev pub StepOf : World → Core → Step → Core → Type 0
StepOf w old (Fire i) new =
    (i < w.regions) × (e : Event) × IsNextEntry w (base_of w old) i (old.part i) e × (is_own w i (key_of e) ≡ true) × (new ≡ with_part old i (with_entry (old.part i) e) (fire_puts w.told e))
StepOf w old (Pass i) new =
    (i < w.regions) ×
    (((e : Event) × IsNextEntry w (base_of w old) i (old.part i) e × (is_own w i (key_of e) ≡ false) × (new ≡ with_part old i (with_entry (old.part i) e) (λ _. [])))
    ⊎ (HasNoEntry w (base_of w old) i (old.part i) × (new ≡ with_part old i (at_end w (old.part i)) (λ _. []))))
StepOf w old (Take j i) new =
    (j < w.regions) × (i < w.regions) × (op : Op) × (rest : List Op) × (old.channel j i ≡ op ∷ rest)
    × (new ≡ with_part (with_channel old j i rest) i (after_take w old.horizon i (old.part i) j op) (take_puts w old.horizon i (old.part i) j op))
StepOf w old (Commit k) new = MayCommit w old k × (new ≡ after_commit w old k)

-- These steps lead from old to new.
abbrev pub StepsOf : World → Core → List Step → Core → Type 0
StepsOf w old [] new = new ≡ old
StepsOf w old (step ∷ steps) new = (mid : Core) × StepOf w old step mid × StepsOf w mid steps new

abbrev pub IsPrefixOf : List Event → List Event → Type 0
IsPrefixOf xs ys = (rest : List Event) × (ys ≡ xs ++ rest)
