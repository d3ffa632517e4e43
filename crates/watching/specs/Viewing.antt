-- What viewers have of a list of changes.
use Rattle.std.specs.Prelude.{◌≡◌, ℕ, ◌+◌, ◌-◌, List, length, All, slice_index_or}
use Rattle.frames.specs.declared.sample.Change.{Change}
use Rattle.frames.specs.declared.sample.Sample.{Sample}
use Rattle.frames.specs.States.{after}
use Rattle.frames.specs.Ends.{WriterName}
use Rattle.viewer.specs.declared.viewer.Viewer.{Viewer}
use Rattle.viewer.specs.Samples.{IsStateOf, Rise}

-- A viewer of this writer, with so many samples, and room for so many more.
pub record IsAt (writer : WriterName) (taken room : ℕ) (v : Viewer) : Type 0 where
  pub writer_is : v.writer ≡ writer
  pub taken_is : length v.samples ≡ taken
  pub room_is : v.room ≡ room

-- The viewer took so many samples more.
pub record HasSampled (n : ℕ) (v w : Viewer) : Type 0 where
  pub writer_is : w.writer ≡ v.writer
  pub taken_is : length w.samples ≡ length v.samples + n
  pub room_is : w.room ≡ v.room - n

-- So many samples, each the state after a beginning of the changes, none with fewer events than the one before, and the last the state after all.
pub record IsDone (start : List ℕ) (changes : List Change) (samples : ℕ) (v : Viewer) : Type 0 where
  pub number : length v.samples ≡ samples
  pub states : All (IsStateOf start changes) v.samples
  pub rises : Rise 0 v.samples
  pub last : (d : Sample) → slice_index_or v.samples (samples - 1) d ≡ after start changes
