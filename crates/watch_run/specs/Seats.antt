-- The viewers of a run, and their lines.
use Rattle.std.specs.Prelude.{◌≡◌, ◌≤◌, ℕ, List, length}
use Rattle.surf_kinds.specs.declared.site.SiteState.{SiteState}
use Rattle.frames.specs.declared.sample.Sample.{Sample}
use Rattle.watching.specs.Lines.{views_text}
use Rattle.watching.specs.Views.{AreViews}
use Rattle.run_writer.specs.RunText.{Scene, events_of}
use Rattle.watch_run.specs.declared.beside.Seats.{Seats}

-- from 1 to 16 viewers, and from 1 to 1,000 samples of each
pub record AreSeats (seats : Seats) : Type 0 where
  pub some_viewers : 1 ≤ seats.viewers
  pub viewers : seats.viewers ≤ 16
  pub some_frames : 1 ≤ seats.frames
  pub frames : seats.frames ≤ 1000

-- These are the lines of the viewers of a run from a first surface on: as many viewers as there are seats, and as many samples of each as its seat has.
abbrev pub AreLinesOf : Seats → Scene → List SiteState → List ℕ → Type 0
AreLinesOf seats s first lines =
    (views : List (List Sample)) × AreViews s.network (length s.names) seats.viewers seats.frames first (events_of s first) views × (lines ≡ views_text s.names views)
