-- The part of one region, its steps, and its runs.
use Rattle.std.specs.Prelude.{ℕ, zero, suc, ◌<◌, Bool, ◌&&◌, ◌||◌, ◌==◌, ◌≡◌, true, false, List, [], ◌∷◌, ◌++◌, Option, if◌then◌else◌}
use Rattle.std.specs.Option.{option_map_or}
use Rattle.surf_kinds.specs.declared.event.Key.{Key}
use Rattle.surf_kinds.specs.declared.event.Event.{Event}
use Rattle.surf_kinds.specs.declared.site.SiteState.{SiteState}
use Rattle.surf_kinds.specs.Keys.{is_before, key_of, key_after, at, keep, below, from, ◌is_upto◌}
use Rattle.border.specs.declared.op.Op.{Op}
use Rattle.border.specs.declared.op.Op.TheVariants.{Put, Back}
use Rattle.border.specs.Messages.{replay, replay_one, op_key, accepted_op}
use Rattle.warp_core.specs.Messages.{accepted_ops, AreSent, partition_of}
use Rattle.warp_core.specs.World.{World, after_all, is_own, is_told_by, end_key}
use Rattle.warp_core.specs.Timelines.{IsLocal, IsNext, IsNothingDue}

-- a timeline, a clock, and a stack of received events for each sender
pub record Part : Type 0 where
  pub timeline : List Event
  pub clock : Key
  pub stack : ℕ → List Event

-- the received event of a key: what the stack of the region that has the key's place has there
abbrev pub received_at : World → Part → Key → Option Event
received_at w p k = at k (p.stack (w.owner k.place.0))

-- The part of region i is sound for a base surface: its clock is from the floor on and at most the end key, and its timeline is local.
pub record IsSound (w : World) (base : List SiteState) (floor : Key) (i : ℕ) (p : Part) : Type 0 where
  pub low : floor is_upto p.clock
  pub high : p.clock is_upto end_key w
  pub local : IsLocal w (is_own w i) base floor (received_at w p) p.clock p.timeline

-- The next entry of region i: of its own places and of its stacks, from its clock on and within the duration.
abbrev pub IsNextEntry : World → List SiteState → ℕ → Part → Event → Type 0
IsNextEntry w base i p e = IsNext w (is_own w i) (received_at w p) (after_all w base p.timeline) p.clock e

abbrev pub HasNoEntry : World → List SiteState → ℕ → Part → Type 0
HasNoEntry w base i p = IsNothingDue w (is_own w i) (received_at w p) (after_all w base p.timeline) p.clock

-- What the steps make of a part

-- with one entry more: the clock is the successor of its key
abbrev pub with_entry : Part → Event → Part
with_entry p e = record p { timeline = p.timeline ++ e ∷ []; clock = key_after (key_of e) }

-- with the clock at the end
abbrev pub at_end : World → Part → Part
at_end w p = record p { clock = end_key w }

-- with a message replayed on the stack of its sender j; where its key is below the clock, the timeline is cut there, and the clock is that key
abbrev pub after_op : Part → ℕ → Op → Part
after_op p j op =
    record {
      timeline = if is_before (op_key op) p.clock then below (op_key op) p.timeline else p.timeline;
      clock = if is_before (op_key op) p.clock then op_key op else p.clock;
      stack = λ s. if s == j then replay_one (p.stack s) op else p.stack s;
    }

-- the same with what region i, with this floor, takes the message for
abbrev pub after_take : World → Key → ℕ → Part → ℕ → Op → Part
after_take w floor i p j op = option_map_or (after_op p j) (accepted_op (partition_of w) j i floor op) p

-- What the steps put into the channel to region l

-- an event that fired, where region l is told of its place
abbrev pub fire_puts : (ℕ → ℕ → Bool) → Event → ℕ → List Op
fire_puts told e l = if told l e.place.0 then Put e ∷ [] else []

-- some region below n is told of the events of a place
abbrev pub is_told_to_some : (ℕ → ℕ → Bool) → ℕ → ℕ → Bool
is_told_to_some told zero p = false
is_told_to_some told (suc n) p = is_told_to_some told n p || told n p

-- where the first list has an event, a Back with the key of the first event of the second
abbrev pub back_if_any : List Event → List Event → List Op
back_if_any [] all = []
back_if_any (x ∷ xs) [] = []
back_if_any (x ∷ xs) (e ∷ es) = Back (key_of e) ∷ []

-- where a message cuts own events that region l was told of: one Back, with the least key of all own events cut that any region was told of
abbrev pub op_puts : World → ℕ → Part → Op → ℕ → List Op
op_puts w i p op l =
    if is_before (op_key op) p.clock
    then back_if_any (keep (is_told_by w i l) (from (op_key op) p.timeline)) (keep (λ k. is_own w i k && is_told_to_some w.told w.regions k.place.0) (from (op_key op) p.timeline))
    else []

abbrev pub take_puts : World → Key → ℕ → Part → ℕ → Op → ℕ → List Op
take_puts w floor i p j op l = option_map_or (λ accepted. op_puts w i p accepted l) (accepted_op (partition_of w) j i floor op) []

-- Steps of one region

-- Passes is Pass with an entry, and Ends is Pass without one.
pub data PartStep : Type 0 where
  Fires : Event → PartStep
  Passes : Event → PartStep
  Ends : PartStep
  Takes : ℕ → Op → PartStep

-- when region i may make a step
abbrev pub MayStep : World → List SiteState → ℕ → Part → PartStep → Type 0
MayStep w base i p (PartStep.Fires e) = IsNextEntry w base i p e × (is_own w i (key_of e) ≡ true)
MayStep w base i p (PartStep.Passes e) = IsNextEntry w base i p e × (is_own w i (key_of e) ≡ false)
MayStep w base i p PartStep.Ends = HasNoEntry w base i p
MayStep w base i p (PartStep.Takes j op) = Unit {0}

abbrev pub part_after : World → Key → ℕ → Part → PartStep → Part
part_after w floor i p (PartStep.Fires e) = with_entry p e
part_after w floor i p (PartStep.Passes e) = with_entry p e
part_after w floor i p PartStep.Ends = at_end w p
part_after w floor i p (PartStep.Takes j op) = after_take w floor i p j op

-- what a step puts for region l, and which messages of region j it takes
abbrev pub step_puts : World → Key → ℕ → Part → PartStep → ℕ → List Op
step_puts w floor i p (PartStep.Fires e) l = fire_puts w.told e l
step_puts w floor i p (PartStep.Passes e) l = []
step_puts w floor i p PartStep.Ends l = []
step_puts w floor i p (PartStep.Takes j op) l = take_puts w floor i p j op l

abbrev pub step_takes : PartStep → ℕ → List Op
step_takes (PartStep.Fires e) j = []
step_takes (PartStep.Passes e) j = []
step_takes PartStep.Ends j = []
step_takes (PartStep.Takes s op) j = if j == s then op ∷ [] else []

-- Runs: steps one after another

abbrev pub part_run : World → Key → ℕ → Part → List PartStep → Part
part_run w floor i p [] = p
part_run w floor i p (step ∷ steps) = part_run w floor i (part_after w floor i p step) steps

abbrev pub run_puts : World → Key → ℕ → Part → List PartStep → ℕ → List Op
run_puts w floor i p [] l = []
run_puts w floor i p (step ∷ steps) l = step_puts w floor i p step l ++ run_puts w floor i (part_after w floor i p step) steps l

abbrev pub run_takes : List PartStep → ℕ → List Op
run_takes [] j = []
run_takes (step ∷ steps) j = step_takes step j ++ run_takes steps j

abbrev pub MayRun : World → List SiteState → Key → ℕ → Part → List PartStep → Type 0
MayRun w base floor i p [] = Unit {0}
MayRun w base floor i p (step ∷ steps) = MayStep w base i p step × MayRun w base floor i (part_after w floor i p step) steps

-- The four facts of a run of region i, from a sound part to another, that took and put these messages: the stacks are the replay of what was accepted, the new part is sound, what was put tells each region how its share of the timeline changed, and all that was put is lawful.
pub record IsRun (w : World) (base : List SiteState) (floor : Key) (i : ℕ) (old new : Part) (takes puts : ℕ → List Op) : Type 0 where
  pub stacks : (j : ℕ) → new.stack j ≡ replay (old.stack j) (accepted_ops w j i floor (takes j))
  pub sound : IsSound w base floor i new
  pub told : (l : ℕ) → l < w.regions → replay (keep (is_told_by w i l) old.timeline) (puts l) ≡ keep (is_told_by w i l) new.timeline
  pub sent : (l : ℕ) → l < w.regions → AreSent w i l floor (puts l)
