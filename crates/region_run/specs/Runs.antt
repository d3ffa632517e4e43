-- What a call makes of a region: a run of steps of the core.
use Rattle.std.specs.Prelude.{◌≡◌, ℕ, ◌+◌, ◌-◌, ◌*◌, ◌≤◌, ◌⊎◌, true, Bool, MatchBool, List, [], ◌∷◌, ◌++◌, slice_set, vec_len, vec_capacity, Option, Some, None, if◌then◌else◌}
use Rattle.surf_kinds.specs.declared.event.Event.{Event}
use Rattle.surf_kinds.specs.declared.event.Key.{Key}
use Rattle.surf_kinds.specs.Keys.{is_before, below, from}
use Rattle.plan.specs.Network.{Network}
use Rattle.regions.specs.Bands.{Bands}
use Rattle.timeline.specs.TimelineView.{events_of}
use Rattle.border.specs.Messages.{op_key, replay_one}
use Rattle.border.specs.declared.op.Op.{Op}
use Rattle.warp_core.specs.World.{after_all, end_key}
use Rattle.warp_core.specs.Parts.{PartStep, MayStep, part_after, step_puts, MayRun, part_run, run_puts, run_takes, op_puts, IsRun, HasNoEntry}
use Rattle.region_run.specs.Boards.{IsBoard}
use Rattle.border.specs.Stacked.{StacksView, stack_of}
use Rattle.region_run.specs.Sides.{SideView, is_other, Gained, HasRoom}
use Rattle.region_run.specs.Regions.{Base, world_at, part_of, line_to, AreMarked, IsRegion}
use Rattle.region_run.specs.declared.region.Region.{Region}

-- From old to new the region made one step of the core, and put what the step puts: with the four facts of such a run.
pub record MakesStep (n : Network) (b : Bands) (until : ℕ) (x : Base) (old : Region) (step : PartStep) (new : Region) : Type 0 where
  pub id : new.id ≡ old.id
  pub may : MayStep (world_at n b until x) x.surface.sites old.id (part_of old) step
  pub part : part_of new ≡ part_after (world_at n b until x) x.floor old.id (part_of old) step
  pub puts : (l : ℕ) → line_to new l ≡ line_to old l ++ step_puts (world_at n b until x) x.floor old.id (part_of old) step l
  pub facts : IsRun (world_at n b until x) x.surface.sites x.floor old.id (part_of old) (part_of new) (run_takes (step ∷ [])) (run_puts (world_at n b until x) x.floor old.id (part_of old) (step ∷ []))
  pub region : IsRegion n b until x new

-- From old to new the region made these steps.
pub record MakesRun (n : Network) (b : Bands) (until : ℕ) (x : Base) (old : Region) (steps : List PartStep) (new : Region) : Type 0 where
  pub id : new.id ≡ old.id
  pub may : MayRun (world_at n b until x) x.surface.sites x.floor old.id (part_of old) steps
  pub part : part_of new ≡ part_run (world_at n b until x) x.floor old.id (part_of old) steps
  pub puts : (l : ℕ) → line_to new l ≡ line_to old l ++ run_puts (world_at n b until x) x.floor old.id (part_of old) steps l
  pub facts : IsRun (world_at n b until x) x.surface.sites x.floor old.id (part_of old) (part_of new) (run_takes steps) (run_puts (world_at n b until x) x.floor old.id (part_of old) steps)
  pub region : IsRegion n b until x new

-- The step of a call that takes no message: the next entry, or where there is none the end.
abbrev pub StepsOn : Network → Bands → ℕ → Base → Region → Bool → Region → Type 0
StepsOn n b until x old answer new =
    MatchBool answer
    ((step : PartStep) × MakesStep n b until x old step new × (((e : Event) × (step ≡ PartStep.Fires e)) ⊎ ((e : Event) × (step ≡ PartStep.Passes e))))
    (MakesStep n b until x old PartStep.Ends new × HasNoEntry (world_at n b until x) x.surface.sites old.id (part_of old) × (new.clock ≡ end_key (world_at n b until x)))

-- From old to new the region went back to a key, where that is before its clock, and put a Back for each neighbour that was told of what went.
pub record IsCutBack (n : Network) (b : Bands) (until : ℕ) (x : Base) (op : Op) (old new : Region) : Type 0 where
  pub same : new ≡ record old { board = new.board; clock = new.clock; first = new.first; second = new.second }
  pub range : new.board.range ≡ old.board.range
  pub undoable : new.board.undoable ≡ old.board.undoable
  pub board : IsBoard n x.cells x.past x.surface x.floor new.board
  pub timeline : events_of new.board.timeline.entries ≡ (if is_before (op_key op) old.clock then below (op_key op) (events_of old.board.timeline.entries) else events_of old.board.timeline.entries)
  pub marked : AreMarked b old.id new.board.timeline.entries
  pub clock : new.clock ≡ (if is_before (op_key op) old.clock then op_key op else old.clock)
  pub first : Gained old.first (op_puts (world_at n b until x) old.id (part_of old) op) new.first
  pub second : Gained old.second (op_puts (world_at n b until x) old.id (part_of old) op) new.second

-- the stack of a neighbour with a message replayed on it
abbrev pub replayed_at : StacksView → ℕ → Op → StacksView
replayed_at s k op = record { stacks = slice_set s.stacks k (replay_one (stack_of s k) op); spare = s.spare - 1 }

-- a message was replayed on the stack of its sender, where that is a neighbour
abbrev pub IsReplayed : Option SideView → Option SideView → ℕ → Op → StacksView → StacksView → Type 0
IsReplayed first second sender op s t = t ≡ (if is_other first sender then replayed_at s 0 op else (if is_other second sender then replayed_at s 1 op else s))

-- the same neighbour, with the same ends
abbrev pub SameSide : Option SideView → Option SideView → Type 0
SameSide None None = Unit {0}
SameSide (Some s) (Some t) = (t.other ≡ s.other) × (t.ends ≡ s.ends)
SameSide None (Some t) = ⊥
SameSide (Some s) None = ⊥

abbrev pub SameRings : Region → Region → Type 0
SameRings old new = SameSide old.first new.first × SameSide old.second new.second

-- Room for so many entries, messages taken, and messages put for each neighbour; and for what an undo needs.
pub record HasSpare (m : ℕ) (r : Region) : Type 0 where
  pub timeline : m ≤ r.board.timeline.spare
  pub changes : r.board.undoable ≡ true → vec_len r.board.changes + 14 * m ≤ vec_capacity r.board.changes
  pub stacks : m ≤ r.stacks.spare
  pub first : HasRoom m r.first
  pub second : HasRoom m r.second

-- a call uses one of the spare at most
abbrev pub UsesOne : Region → Region → Type 0
UsesOne old new = (m : ℕ) → HasSpare (m + 1) old → HasSpare m new

-- From old to new the region forgot the entries below a key: they went into its base.
pub record IsCommitted (n : Network) (b : Bands) (until : ℕ) (x : Base) (key : Key) (old new : Region) : Type 0 where
  pub base_after : Base
  pub cells : base_after.cells ≡ x.cells
  pub floor : base_after.floor ≡ key
  pub surface : base_after.surface.sites ≡ after_all (world_at n b until x) x.surface.sites (below key (part_of old).timeline)
  pub timeline : (part_of new).timeline ≡ from key (part_of old).timeline
  pub clock : new.clock ≡ old.clock
  pub stacks : (l : ℕ) → (part_of new).stack l ≡ from key ((part_of old).stack l)
  pub region : IsRegion n b until base_after new
