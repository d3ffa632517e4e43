-- The rule of the places, what its steps tell, and what a step of the writer does to a frame.
use Rattle.std.specs.Prelude.{◌≡◌, ℕ, true, false, List, []}
use mathlib.Core.Option.{some}
use lib.ListN.{get_elem?}
use Rattle.logbook.specs.Pages.{Book}
use Rattle.frames.specs.declared.pair.Frame.{Frame}
use Rattle.frames.specs.declared.pair.Step.{Step}
use Rattle.frames.specs.declared.places.Knowledge.{Knowledge}
use Rattle.frames.specs.States.{after}
use Rattle.frames.specs.Capped.{applied}

abbrev pub moved_on : Frame → Step → Frame
moved_on f step = record { sample = applied f.sample step.change; seen = step.seen }

abbrev pub known_as : List ℕ → Book → Knowledge
known_as start b = record { known = true; start = start; number = b.number; log_name = b.log_name; cells_name = b.cells_name }

abbrev pub newcomer : Knowledge
newcomer = record { known = false; start = []; number = 0; log_name = 0; cells_name = 0 }

-- the frame is the state after the list that it names
abbrev pub IsFrame : List ℕ → Frame → Type 0
IsFrame start f = f.sample ≡ after start f.seen.log

-- what is published is a frame, and each place that knows something knows its start and its list
pub record ArePlaces (f : Frame) (views : List Knowledge) : Type 0 where
  pub start : List ℕ
  pub frame : IsFrame start f
  pub each : (seat : ℕ) (v : Knowledge) → get_elem? views seat ≡ some v → v.known ≡ true → v ≡ known_as start f.seen.book

-- a place that knows a start and a list sees a frame of these
abbrev pub Sees : Knowledge → Frame → Frame → Knowledge → Type 0
Sees v f g w = (w ≡ v) × ((start : List ℕ) (b : Book) → v ≡ known_as start b → IsFrame start g × (g.seen.book ≡ b))

abbrev pub Opens : Knowledge → Frame → Frame → Knowledge → Type 0
Opens v f g w = w ≡ known_as g.sample.counts g.seen.book
