-- What is seen of a viewer, and what holds of its samples.
use Rattle.std.specs.Prelude.{◌≡◌, ℕ, ◌≤◌, nat_lt, List, [], ◌∷◌, take, length, All, if◌then◌else◌}
use Rattle.frames.specs.declared.sample.Change.{Change}
use Rattle.frames.specs.declared.sample.Sample.{Sample}
use Rattle.frames.specs.States.{after}
use Rattle.frames.specs.Ends.{WriterName}

-- a viewer of a writer: the longest list of changes that it saw or was told of, its samples in order, and for how many
-- more there is room
pub record ViewerView : Type 0 where
  pub writer : WriterName
  pub longest : List Change
  pub samples : List Sample
  pub room : ℕ

-- the state after a beginning of the list
abbrev pub IsStateOf : List ℕ → List Change → Sample → Type 0
IsStateOf start changes s = (s.events ≤ length changes) × (s ≡ after start (take s.events changes))

-- the state that was told in place of a sample that has more events
abbrev pub clipped : Sample → Sample → Sample
clipped told s = (if nat_lt told.events s.events then told else s)

-- the numbers of events never fall, from n on
abbrev pub Rise : ℕ → List Sample → Type 0
Rise n [] = Unit {0}
Rise n (s ∷ ss) = (n ≤ s.events) × Rise s.events ss

-- the first `taken` places have samples
pub record IsViewer (start : List ℕ) (longest : List Change) (places : List Sample) (taken : ℕ) : Type 0 where
  pub within : taken ≤ length places
  pub wide : All (λ s. length s.counts ≡ length start) places
  pub states : All (IsStateOf start longest) (take taken places)
  pub rise : Rise 0 (take taken places)
