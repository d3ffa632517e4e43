-- What `stress` says of a run.
use Rattle.std.specs.Prelude.{ℕ, List, [], ◌∷◌, ◌++◌, length, decimal, codes}
use Rattle.surf_kinds.specs.declared.event.Event.{Event}
use Rattle.surf_kinds.specs.declared.site.SiteState.{SiteState}
use Rattle.trace_text.specs.Lines.{counts_text}
use Rattle.run_writer.specs.Cuts.{surface_after}
use Rattle.run_writer.specs.RunText.{Scene, events_of}

-- the time of the last of these events, which begin at a tick; that tick where there are none
abbrev pub last_time : ℕ → List Event → ℕ
last_time tick [] = tick
last_time tick (e ∷ es) = last_time e.time es

-- stress <number> events <events> last <tick>
unfoldable pub stress_line : ℕ → ℕ → ℕ → List ℕ
stress_line number events tick = codes "stress " ++ decimal number ++ codes " events " ++ decimal events ++ codes " last " ++ decimal tick ++ 10 ∷ []

-- how many events there were and when the last one was, and the counts of the last surface
abbrev pub stress_text : ℕ → Scene → List SiteState → List ℕ
stress_text number s sites =
    stress_line number (length (events_of s sites)) (last_time 0 (events_of s sites)) ++ counts_text s.names (surface_after s sites (events_of s sites))
