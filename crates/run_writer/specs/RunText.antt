-- The text of a run: its events in the order of the history, the surfaces of the sampling ticks between them, and the end.
use Rattle.std.specs.Prelude.{ℕ, ◌+◌, ◌*◌, ◌/◌, List, [], ◌∷◌, ◌++◌, map, nat_lt, ◌==◌, if◌then◌else◌}
use Rattle.std.specs.List.{flat_map, range_with_len}
use Rattle.surf_kinds.specs.declared.event.Event.{Event}
use Rattle.surf_kinds.specs.declared.site.SiteState.{SiteState}
use Rattle.lattice.specs.Surface.{after}
use Rattle.plan.specs.Network.{Network}
use Rattle.plan.specs.History.{history}
use Rattle.trace_text.specs.Lines.{event_text, surface_text, end_text, limit_text}

-- what is run and written: the names of the species, the rules on a lattice, the duration in ticks, how many surfaces are
-- shown, and how many events at most
pub record Scene : Type 0 where
  pub names : List (List ℕ)
  pub network : Network
  pub until : ℕ
  pub samples : ℕ
  pub limit : ℕ

-- the ticks at which a surface is shown: the duration in so many equal parts, and the last is its end
abbrev pub sampling_ticks : ℕ → ℕ → List ℕ
sampling_ticks until samples = map (λ i. i * until / samples) (range_with_len 1 samples)

-- the ticks of a rising list before a time, and those from it on

abbrev pub ticks_before : ℕ → List ℕ → List ℕ
ticks_before time [] = []
ticks_before time (tick ∷ ticks) = if nat_lt tick time then tick ∷ ticks_before time ticks else []

abbrev pub ticks_from : ℕ → List ℕ → List ℕ
ticks_from time [] = []
ticks_from time (tick ∷ ticks) = if nat_lt tick time then ticks_from time ticks else tick ∷ ticks

-- how far a run has come: what stands at the sites, how many events there were, and the sampling ticks that are left
pub record Reached : Type 0 where
  pub sites : List SiteState
  pub events : ℕ
  pub ticks : List ℕ

-- the surface at each of these ticks
abbrev pub shown : Scene → Reached → List ℕ → List ℕ
shown s r ticks = flat_map (λ tick. surface_text s.names s.network.lattice r.sites tick r.events) ticks

-- after one more event
abbrev pub reached : Scene → Reached → Event → Reached
reached s r e = record {
  sites = after s.network.lattice s.network.rules r.sites e;
  events = r.events + 1;
  ticks = ticks_from e.time r.ticks;
}

-- The text of the events that follow. Before each stand the surfaces of the sampling ticks before its time; an event
-- that is one more than the limit isn't written, and the text ends there.
unfoldable pub text_from : List Event → Scene → Reached → List ℕ
text_from [] s r = shown s r r.ticks ++ end_text s.until r.events
text_from (e ∷ es) s r =
    shown s r (ticks_before e.time r.ticks)
    ++ (if r.events == s.limit then limit_text s.limit else event_text s.network.lattice.cols e ++ text_from es s (reached s r e))

abbrev pub start : Scene → List SiteState → Reached
start s sites = record { sites = sites; events = 0; ticks = sampling_ticks s.until s.samples }

abbrev pub events_of : Scene → List SiteState → List Event
events_of s sites = history s.network s.until sites

-- the run text on a first surface
abbrev pub run_text : Scene → List SiteState → List ℕ
run_text s sites = text_from (events_of s sites) s (start s sites)
