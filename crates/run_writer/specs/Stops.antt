-- What a run has written when it ends or stops.
use Rattle.std.specs.Prelude.{ℕ, ◌<◌, ◌≤◌, List, [], length, Option, Result, Ok, Err}
use Rattle.std.specs.Io.KnownBytes.{Appends}
use Rattle.surf_kinds.specs.declared.site.SiteState.{SiteState}
use Rattle.surf_outside.specs.Known.{AppendsPrefix}
use Rattle.run_writer.specs.declared.pages.Stop.{Stop}
use Rattle.run_writer.specs.declared.pages.Stop.TheVariants as stops
use Rattle.run_writer.specs.RunText.{Scene, events_of}

-- a run is written to its end only where it has at most as many events as the limit, and is limited only where it has more
abbrev pub IsLimited : {T : Type 0} → Result T Stop → Scene → List SiteState → Type 0
IsLimited (Ok x) s sites = length (events_of s sites) ≤ s.limit
IsLimited (Err stops.Limit) s sites = s.limit < length (events_of s sites)
IsLimited (Err stops.Write) s sites = Unit {0}
IsLimited (Err stops.Memory) s sites = Unit {0}

-- the sink gained the whole text of a run that went to its end, and nothing of another but for a write that failed
abbrev pub EndGains : {T : Type 0} → Result T Stop → List ℕ → Option (List ℕ) → Option (List ℕ) → Type 0
EndGains (Ok x) text old new = Appends old new text
EndGains (Err stops.Limit) text old new = Appends old new []
EndGains (Err stops.Write) text old new = AppendsPrefix old new text
EndGains (Err stops.Memory) text old new = Appends old new []

-- the sink gained the whole text, unless a write or memory failed
abbrev pub RunGains : {T : Type 0} → Result T Stop → List ℕ → Option (List ℕ) → Option (List ℕ) → Type 0
RunGains (Ok x) text old new = Appends old new text
RunGains (Err stops.Limit) text old new = Appends old new text
RunGains (Err stops.Write) text old new = AppendsPrefix old new text
RunGains (Err stops.Memory) text old new = AppendsPrefix old new text
