-- Settling: all messages are delivered, and the regions behind the least next key catch up. What makes each of these end, and what a core is once it is settled.
use Rattle.std.specs.Prelude.{ℕ, zero, suc, ◌+◌, ◌<◌, Bool, ◌≡◌, true, false, ◌⊎◌, List, [], ◌∷◌, length, if◌then◌else◌, None, Some}
use Rattle.surf_kinds.specs.declared.site.SiteState.{SiteState}
use Rattle.surf_kinds.specs.declared.event.Key.{Key}
use Rattle.surf_kinds.specs.declared.event.Event.{Event}
use Rattle.surf_kinds.specs.Keys.{is_before, key_of, at, keep, ◌is_below◌, ◌is_upto◌}
use Rattle.border.specs.declared.op.Op.{Op}
use Rattle.border.specs.Messages.{op_key}
use Rattle.warp_core.specs.World.{World, is_own, is_told_by, after_all, end_key}
use Rattle.warp_core.specs.Timelines.{due_at}
use Rattle.warp_core.specs.Parts.{Part, received_at, IsNextEntry, HasNoEntry}
use Rattle.warp_core.specs.Cores.{Core, base_of, IsConsistent}
use Rattle.warp_core.specs.Steps.{StepOf, StepsOf}
use Rattle.warp_core.specs.declared.step.Step.{Step}
use Rattle.warp_core.specs.declared.step.Step.TheVariants.{Fire, Pass, Take, Commit}

-- Deliveries

-- the sum of f over the numbers below n
abbrev pub sum_below : (ℕ → ℕ) → ℕ → ℕ
sum_below f zero = 0
sum_below f (suc n) = sum_below f n + f n

-- the events of region j's timeline that region i is told of, and the messages on their way from j to i
abbrev pub pair_load : World → Core → ℕ → ℕ → ℕ
pair_load w c j i = length (keep (is_told_by w j i) (c.part j).timeline) + length (c.channel j i)

-- the same of all pairs: what each delivery makes less
abbrev pub load : World → Core → ℕ
load w c = sum_below (λ j. sum_below (pair_load w c j) w.regions) w.regions

-- no message is on its way
abbrev pub AreEmpty : World → Core → Type 0
AreEmpty w c = (j i : ℕ) → j < w.regions → i < w.regions → c.channel j i ≡ []

abbrev pub AreTakes : List Step → Type 0
AreTakes [] = Unit {0}
AreTakes (Take j i ∷ steps) = AreTakes steps
AreTakes (Fire i ∷ steps) = ⊥
AreTakes (Pass i ∷ steps) = ⊥
AreTakes (Commit k ∷ steps) = ⊥

-- Takes alone lead from old to new.
abbrev pub TakesTo : World → Core → Core → Type 0
TakesTo w old new = (steps : List Step) × AreTakes steps × StepsOf w old steps new

-- Next keys

-- The key of a region's next entry, or the end key.
abbrev pub IsNextKey : World → Core → ℕ → Key → Type 0
IsNextKey w c i k = ((e : Event) × IsNextEntry w (base_of w c) i (c.part i) e × (key_of e ≡ k)) ⊎ (HasNoEntry w (base_of w c) i (c.part i) × (k ≡ end_key w))

-- The least of the next keys of the first n regions.
pub record IsLeastNext (w : World) (c : Core) (n : ℕ) (m : Key) : Type 0 where
  pub some : (i : ℕ) × (i < n) × IsNextKey w c i m
  pub least : (i : ℕ) → i < n → (k : Key) × IsNextKey w c i k × (m is_upto k)

-- The least of all clocks.
pub record IsLeastClock (w : World) (c : Core) (k : Key) : Type 0 where
  pub least : (i : ℕ) → i < w.regions → k is_upto (c.part i).clock
  pub some : (i : ℕ) × (i < w.regions) × (k ≡ (c.part i).clock)

-- Catching up

-- what holds of the key of each message
abbrev pub AllOps : (Key → Type 0) → List Op → Type 0
AllOps P [] = Unit {0}
AllOps P (op ∷ ops) = P (op_key op) × AllOps P ops

-- nothing is due at a region from its clock on and below a key
abbrev pub IsQuietBelow : World → List SiteState → ℕ → Part → Key → Type 0
IsQuietBelow w base i p m = (k : Key) → p.clock is_upto k → k is_below m → due_at w (is_own w i) (received_at w p) (after_all w base p.timeline) k ≡ None

-- While the regions behind the key m catch up.
pub record IsCatching (w : World) (c : Core) (m : Key) : Type 0 where
  -- no region has anything left below the key
  pub quiet : (i : ℕ) → i < w.regions → IsQuietBelow w (base_of w c) i (c.part i) m
  -- each message has a key of its sender's own, from m on
  pub late : (j i : ℕ) → j < w.regions → i < w.regions → AllOps (λ k. (is_own w j k ≡ true) × (m is_upto k)) (c.channel j i)
  -- no region sends to itself
  pub apart : (i : ℕ) → i < w.regions → c.channel i i ≡ []

-- the region is past the key
abbrev pub is_past : Core → Key → ℕ → Bool
is_past c m i = is_before m (c.part i).clock

-- all regions below n are past the key
abbrev pub ArePast : Core → Key → ℕ → Type 0
ArePast c m n = (k : ℕ) → k < n → m is_below (c.part k).clock

-- the regions that are behind, and one more than all of them until the owner of the key's place is past it: what each pass makes less
abbrev pub lag : World → Core → Key → ℕ
lag w c m = (if is_past c m (w.owner m.place.0) then 0 else suc w.regions) + sum_below (λ i. if is_past c m i then 0 else 1) w.regions

-- A region's step: Fire or Pass.
abbrev pub StepsOne : World → Core → ℕ → Core → Type 0
StepsOne w old i new = StepOf w old (Fire i) new ⊎ StepOf w old (Pass i) new

-- Each of the first n regions in turn makes one step, if it isn't past the key.
abbrev pub IsPass : World → Key → ℕ → Core → Core → Type 0
IsPass w m zero old new = new ≡ old
IsPass w m (suc n) old new = (mid : Core) × IsPass w m n old mid × (((is_past mid m n ≡ true) × (new ≡ mid)) ⊎ ((is_past mid m n ≡ false) × StepsOne w mid n new))

-- While the core settles, from what it was when settling began: m is the least next key, and the history has an event at it.
pub record IsSettling (w : World) (old c : Core) (m : Key) : Type 0 where
  pub consistent : IsConsistent w c
  pub horizon : c.horizon ≡ old.horizon
  pub catching : IsCatching w c m
  pub empty : AreEmpty w c
  pub early : m is_below end_key w
  pub low : old.horizon is_upto m
  pub event : Event
  pub here : at m w.history ≡ Some event

-- Settled

-- All clocks are at the end key, or past a key from the horizon on at which the history has an event.
abbrev pub HasGone : World → Core → Type 0
HasGone w c =
    ((i : ℕ) → i < w.regions → (c.part i).clock ≡ end_key w)
    ⊎ ((m : Key) × (c.horizon is_upto m) × ArePast c m w.regions × ((e : Event) × (at m w.history ≡ Some e)))

pub record IsSettled (w : World) (old new : Core) : Type 0 where
  pub consistent : IsConsistent w new
  pub horizon : new.horizon ≡ old.horizon
  pub empty : AreEmpty w new
  pub gone : HasGone w new

-- What stands also where memory was wanting: the core is consistent, and its horizon is the old one.
pub record IsUnderWay (w : World) (old new : Core) : Type 0 where
  pub consistent : IsConsistent w new
  pub horizon : new.horizon ≡ old.horizon
