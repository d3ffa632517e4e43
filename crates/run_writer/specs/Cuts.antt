-- Run texts that are cut at a tick, and run texts tick by tick.
use Rattle.std.specs.Prelude.{◌≡◌, ℕ, ◌+◌, List, [], ◌∷◌, ◌++◌, length, nat_le, if◌then◌else◌}
use Rattle.std.specs.List.{flat_map}
use Rattle.surf_kinds.specs.declared.event.Event.{Event}
use Rattle.surf_kinds.specs.declared.site.SiteState.{SiteState}
use Rattle.lattice.specs.Surface.{after_all}
use Rattle.trace_text.specs.Lines.{event_text, surface_text, end_text}
use Rattle.run_writer.specs.RunText.{Scene, Reached, shown, ticks_before, reached}

-- the events of a rising list with times up to a tick, and those behind it

abbrev pub events_upto : ℕ → List Event → List Event
events_upto tick [] = []
events_upto tick (e ∷ es) = if nat_le e.time tick then e ∷ events_upto tick es else []

abbrev pub events_beyond : ℕ → List Event → List Event
events_beyond tick [] = []
events_beyond tick (e ∷ es) = if nat_le e.time tick then events_beyond tick es else e ∷ es

-- the surface after these events
abbrev pub surface_after : Scene → List SiteState → List Event → List SiteState
surface_after s sites es = after_all s.network.lattice s.network.rules sites es

-- how far a run has come after these events
abbrev pub reached_after : Scene → Reached → List Event → Reached
reached_after s r [] = r
reached_after s r (e ∷ es) = reached_after s (reached s r e) es

-- the text of these events alone, each with the surfaces before it
abbrev pub first_part : List Event → Scene → Reached → List ℕ
first_part [] s r = []
first_part (e ∷ es) s r =
    shown s r (ticks_before e.time r.ticks) ++ (event_text s.network.lattice.cols e ++ first_part es s (reached s r e))

abbrev pub event_lines : Scene → List Event → List ℕ
event_lines s es = flat_map (event_text s.network.lattice.cols) es

-- The text of a run, tick by tick: for each sampling tick the lines of the events up to it that are left, and then the
-- surface after all of them; behind the last tick the lines of the other events, and the end. `events` is the number of
-- those that happened before.
unfoldable pub text_by_ticks : List ℕ → List Event → Scene → List SiteState → ℕ → List ℕ
text_by_ticks [] es s sites events = event_lines s es ++ end_text s.until (events + length es)
text_by_ticks (tick ∷ ticks) es s sites events =
    let now = surface_after s sites (events_upto tick es) in
    let count = events + length (events_upto tick es) in
    event_lines s (events_upto tick es)
    ++ (surface_text s.names s.network.lattice now tick count ++ text_by_ticks ticks (events_beyond tick es) s now count)

-- the text ends so
abbrev pub EndsWithText : List ℕ → List ℕ → Type 0
EndsWithText back text = (front : List ℕ) × (text ≡ front ++ back)
