-- What is seen of the ends, and what holds of them.
use Rattle.std.specs.Prelude.{◌≡◌, ℕ, ◌<◌, ◌^◌, List, fold}
use mathlib.Core.List.{IsPrefix}
use Rattle.logbook.specs.Pages.{Book}
use Rattle.frames.specs.declared.sample.Change.{Change}
use Rattle.frames.specs.declared.sample.Sample.{Sample}
use Rattle.frames.specs.declared.pair.Frame.{Frame}
use Rattle.frames.specs.declared.pair.Step.{Step}
use Rattle.frames.specs.declared.places.Knowledge.{Knowledge}
use Rattle.frames.specs.States.{after, total}
use Rattle.frames.specs.Places.{known_as, moved_on, IsFrame}

-- which writer it is: where its list of changes lies, and the counts at its start
pub record WriterName : Type 0 where
  pub book : Book
  pub start : List ℕ

-- a writer: the changes that were added, and those that were published
pub record WriterView : Type 0 where
  pub name : WriterName
  pub added : List Change
  pub published : List Change

-- a reader of a writer: the longest list of changes that it saw or was told of
pub record ReaderView : Type 0 where
  pub writer : WriterName
  pub longest : List Change

-- what was told: a list of changes, and the state after it
pub record ToldView : Type 0 where
  pub book : Book
  pub list : List Change
  pub state : Sample

-- it was told by the writer of this name
abbrev pub IsToldBy : WriterName → ToldView → Type 0
IsToldBy w t = (t.book ≡ w.book) × (t.state ≡ after w.start t.list)

pub record IsReader (v : Knowledge) (last : Sample) (log : List Change) (book : Book) : Type 0 where
  pub known : v ≡ known_as v.start book
  pub last_is : last ≡ after v.start log

-- `goal` is the frame after all changes that were added
pub record IsWriter (v : Knowledge) (shown : Frame) (pending : List Step) (goal : Frame) : Type 0 where
  pub known : v ≡ known_as v.start goal.seen.book
  pub frame : IsFrame v.start shown
  pub book : shown.seen.book ≡ goal.seen.book
  pub prefix : IsPrefix shown.seen.log goal.seen.log
  pub reach : fold moved_on shown pending ≡ goal
  pub fits : total (after v.start goal.seen.log).counts < 2 ^ 64
