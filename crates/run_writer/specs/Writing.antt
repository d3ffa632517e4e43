-- How far a writer has come in the text of a run, and what it has written when it stops.
use Rattle.std.specs.Prelude.{◌≡◌, ℕ, ◌+◌, ◌^◌, ◌<◌, ◌≤◌, List, [], ◌++◌, length, All, Result, Ok, Err}
use Rattle.plan.specs.Network.{Network}
use Rattle.surface_state.specs.SurfaceView.{SurfaceView}
use Rattle.one_engine.specs.State.{LeavesWithin}
use Rattle.one_engine.specs.Running.{IsSettled}
use Rattle.run_writer.specs.declared.pages.Stop.{Stop}
use Rattle.run_writer.specs.declared.pages.Stop.TheVariants as stops
use Rattle.run_writer.specs.declared.writer.Span.{Span}
use Rattle.run_writer.specs.declared.writer.Task.{Task}
use Rattle.run_writer.specs.declared.writer.Writer.{Writer}
use Rattle.run_writer.specs.Pages.{Page, Wrote, Sends}
use Rattle.run_writer.specs.RunText.{Scene, Reached, sampling_ticks, text_from, events_of}

-- what is run and written, of these names and rules
abbrev pub scene : List (List ℕ) → Network → Span → Scene
scene names network span = record { names = names; network = network; until = span.until; samples = span.samples; limit = span.limit }

abbrev pub scene_of : Task → Scene
scene_of t = scene t.names.now t.plan.now t.span

-- how far a writer has come
abbrev pub reached_of : Writer → Reached
reached_of w = record { sites = w.surface.sites; events = w.events; ticks = w.ticks }

-- nothing was written of the run of this surface
pub record Begins (span : Span) (first : SurfaceView) (w : Writer) : Type 0 where
  pub surface : w.surface ≡ first
  pub tally : w.tally ≡ record { limit = span.limit; admitted = 0 }
  pub events : w.events ≡ 0
  pub ticks : w.ticks ≡ sampling_ticks span.until span.samples
  pub within : All (λ tick. tick ≤ span.until) w.ticks
  pub buffer : w.buffer ≡ record { bytes = []; faults = 0 }

-- the writer's surface is one of the scene on its way, and its counts are those of the scene
pub record IsReady (s : Scene) (w : Writer) : Type 0 where
  pub long : s.until ≤ 10 ^ 15
  pub lattice : w.surface.lattice ≡ s.network.lattice
  pub species_count : w.surface.species_count ≡ length s.names
  pub species : All (LeavesWithin w.surface.species_count) s.network.rules
  pub settled : All IsSettled w.surface.sites
  pub tally : w.tally ≡ record { limit = s.limit; admitted = w.events }
  pub within : w.events ≤ s.limit
  pub ticks : All (λ tick. tick ≤ s.until) w.ticks

-- what is still to be written: the text of the events that the surface has before it
abbrev pub remaining_text : Scene → Reached → List ℕ
remaining_text s r = text_from (events_of s r.sites) s r

-- the number of events in all
abbrev pub total : Scene → Reached → ℕ
total s r = r.events + length (events_of s r.sites)

-- a part of what was to be written was written, and the rest is still to be written
pub record Progress (s : Scene) (r q : Reached) (old new : Page) : Type 0 where
  pub text : List ℕ
  pub wrote : Wrote old new text
  pub rest : remaining_text s r ≡ text ++ remaining_text s q
  pub same_total : total s r ≡ total s q

-- whether the run had more events than the limit
abbrev pub EndsWith : {T : Type 0} → Scene → Reached → Result T Stop → Type 0
EndsWith s r (Ok x) = total s r ≤ s.limit
EndsWith s r (Err stops.Limit) = s.limit < total s r
EndsWith s r (Err stops.Write) = Unit {0}
EndsWith s r (Err stops.Memory) = Unit {0}

-- what stands when nothing more is written
pub record Ends {T : Type 0} (s : Scene) (r : Reached) (old new : Page) (result : Result T Stop) : Type 0 where
  pub sends : Sends old new (remaining_text s r) result
  pub limited : EndsWith s r result

-- a part was written and the rest can be written, or nothing more is written
abbrev pub Advances : {T : Type 0} → Scene → Reached → Reached → Page → Page → Result T Stop → Type 0
Advances s r q old new (Ok x) = Progress s r q old new
Advances {T} s r q old new (Err stop) = Ends {T = T} s r old new (Err stop)
