-- A turn: a run of steps of the core, and what it did with its rings.
use Rattle.std.specs.Prelude.{◌≡◌, ◌≢◌, ℕ, ◌+◌, ◌≤◌, ◌<◌, false, MatchBool, List, [], ◌++◌, length, Option, Some, None, if◌then◌else◌}
use Rattle.surf_kinds.specs.declared.event.Event.{Event}
use Rattle.plan.specs.Network.{Network}
use Rattle.regions.specs.Bands.{Bands}
use Rattle.border.specs.declared.op.Op.{Op}
use Rattle.warp_core.specs.World.{end_key}
use Rattle.warp_core.specs.Parts.{PartStep, IsNextEntry, HasNoEntry, run_takes}
use Rattle.region_run.specs.Sides.{SideView, is_other, Exchanged}
use Rattle.region_run.specs.Channels.{IsSentOut}
use Rattle.region_run.specs.Regions.{Base, world_at, part_of, line_to, ends_with}
use Rattle.region_run.specs.Runs.{MakesRun}
use Rattle.region_run.specs.Counts.{added_in, taken_in, cut_in}
use Rattle.region_run.specs.declared.region.Region.{Region}
use Rattle.region_run.specs.declared.side.Ends.{Ends}
use Rattle.region_run.specs.declared.totals.Turn.{Turn}

-- what two neighbours' rings handed out, by the numbers of the neighbours
abbrev pub handed_out : Option SideView → Option SideView → List Op → List Op → ℕ → List Op
handed_out first second ops1 ops2 l = if is_other first l then ops1 else (if is_other second l then ops2 else [])

-- From old to new the region took what its rings handed out, while each was asked so often; it may have sent messages.
pub record Hears (n : Network) (b : Bands) (until : ℕ) (x : Base) (old : Region) (asks1 asks2 : ℕ) (steps : List PartStep) (new : Region) : Type 0 where
  pub run : MakesRun n b until x old steps new
  pub ops1 : List Op
  pub ops2 : List Op
  pub first : Exchanged old.first ops1 asks1 new.first
  pub second : Exchanged old.second ops2 asks2 new.second
  pub takes : (l : ℕ) → run_takes steps l ≡ handed_out old.first old.second ops1 ops2 l

-- the counts of a turn are those of its steps
pub record CountsSteps (n : Network) (b : Bands) (until : ℕ) (x : Base) (old : Region) (steps : List PartStep) (t : Turn) : Type 0 where
  pub added : t.added ≡ added_in steps
  pub taken : t.taken ≡ taken_in steps
  pub cut : t.cut ≡ cut_in (world_at n b until x) x.floor old.id (part_of old) steps

-- of a neighbour's messages all that waited was sent, or as much as was known free, where there is a ring
abbrev pub RingSent : Option Ends → List Op → Option Ends → Type 0
RingSent None outbox None = Unit {0}
RingSent (Some e) outbox (Some f) = IsSentOut e outbox f
RingSent None outbox (Some f) = ⊥
RingSent (Some e) outbox None = ⊥

abbrev pub IsSent : Option SideView → Option SideView → Type 0
IsSent None None = Unit {0}
IsSent (Some s) (Some t) = RingSent s.ends t.outbox t.ends
IsSent None (Some t) = ⊥
IsSent (Some s) None = ⊥

abbrev pub AreSent : Region → Region → Type 0
AreSent old new = IsSent old.first new.first × IsSent old.second new.second

-- an entry is left up to the end
abbrev pub HasEntryLeft : Network → Bands → ℕ → Base → Region → Type 0
HasEntryLeft n b until x r = (e : Event) × IsNextEntry (world_at n b until x) x.surface.sites r.id (part_of r) e

-- nothing is left, and the clock is the end key
abbrev pub IsAtEnd : Network → Bands → ℕ → Base → Region → Type 0
IsAtEnd n b until x r = HasNoEntry (world_at n b until x) x.surface.sites r.id (part_of r) × (r.clock ≡ end_key (world_at n b until x))

-- each ring was asked at least once, and at least as often as entries were added
abbrev pub AreAsked : ℕ → ℕ → ℕ → Type 0
AreAsked added asks1 asks2 = ((1 ≤ asks1) × (added ≤ asks1)) × ((1 ≤ asks2) × (added ≤ asks2))

-- From old to new the region made a turn with this quota, and this is what it answers.
pub record IsTurn (n : Network) (b : Bands) (until : ℕ) (x : Base) (quota : ℕ) (old new : Region) (t : Turn) : Type 0 where
  pub steps : List PartStep
  pub run : MakesRun n b until x old steps new
  pub counts : CountsSteps n b until x old steps t
  -- at most quota messages are taken: those that the rings handed out
  pub most : t.taken ≤ quota
  pub ops1 : List Op
  pub ops2 : List Op
  pub asks1 : ℕ
  pub asks2 : ℕ
  pub first : Exchanged old.first ops1 asks1 new.first
  pub second : Exchanged old.second ops2 asks2 new.second
  pub takes : (l : ℕ) → run_takes steps l ≡ handed_out old.first old.second ops1 ops2 l
  -- each ring took what it was known to have room for, or all that waited
  pub sent : AreSent old new
  -- exactly quota entries are added, or fewer where nothing is left
  pub added : t.added ≤ quota
  pub whole : t.empty ≡ false → t.added ≡ quota
  -- empty says whether nothing is left; the clock is then the end key
  pub empty : MatchBool t.empty (IsAtEnd n b until x new) (HasEntryLeft n b until x new)
  -- entries are cut only where a message was taken, and the timeline is longer by what was added less what was cut
  pub uncut : t.taken ≡ 0 → t.cut ≡ 0
  pub length : length (part_of new).timeline + t.cut ≡ length (part_of old).timeline + t.added
  -- the rings were asked until they were empty, unless quota messages were taken
  pub asked : t.taken < quota → AreAsked t.added asks1 asks2

-- the neighbour has this number, if there is one
abbrev pub IfNumber : Option SideView → ℕ → Type 0
IfNumber None l = Unit {0}
IfNumber (Some s) l = s.other ≡ l

-- the neighbour, if there is one, has these ends
abbrev pub IsGiven : Option SideView → Ends → Option SideView → Type 0
IsGiven None e None = Unit {0}
IsGiven (Some s) e (Some t) = t ≡ record s { ends = Some e }
IsGiven None e (Some t) = ⊥
IsGiven (Some s) e None = ⊥

-- The region has these ends with another one; what was sent into the ring comes before what waits.
pub record IsAttached (other : ℕ) (e : Ends) (old new : Region) : Type 0 where
  pub same : new ≡ record old { first = new.first; second = new.second }
  pub ends : ends_with new other ≡ Some e
  pub line : line_to new other ≡ e.out.sent ++ line_to old other
  pub others : (l : ℕ) → l ≢ other → (ends_with new l ≡ ends_with old l) × (line_to new l ≡ line_to old l)
