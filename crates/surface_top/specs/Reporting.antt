-- What `run` reports of the crew that it leaves.
use Rattle.std.specs.Prelude.{◌≡◌, ◌≢◌, ◌⊎◌, ℕ, ◌+◌, ◌<◌, ◌≤◌, min, List, [], ◌∷◌, ◌++◌, length, Bool, true, false, Option, Some, None, ⊤, if◌then◌else◌, codes, decimal}
use Rattle.std.specs.Option.{option_map_or}
use Rattle.std.specs.Io.KnownBytes.{Appends}
use Rattle.surf_outside.specs.Causes.{Rose}
use Rattle.surf_outside.specs.Known.{AppendsPrefix}
use Rattle.surf_kinds.specs.declared.status.Status.{Status}
use Rattle.surf_kinds.specs.declared.status.Status.TheVariants as status
use Rattle.crew.specs.declared.settings.Report.{Report}
use Rattle.warp_core.specs.World.{end_key}
use Rattle.region_run.specs.Sides.{raised}
use Rattle.crew.specs.Crews.{CrewView, world_in}
use Rattle.crew.specs.Reports.{report_of}
use Rattle.surface_words.specs.declared.commands.Program.{Program}
use Rattle.surface_words.specs.declared.words.Words.{Words}
use Rattle.surface_words.specs.declared.words.Words.TheVariants.{Run}
use Rattle.surface_words.specs.Reading.{reading}
use Rattle.surface_top.specs.declared.ending.Ending.{Ending}
use Rattle.surface_top.specs.declared.ending.Ending.TheVariants as ending
use Rattle.surface_top.specs.Answer.{specified_answer}
use Rattle.surface_top.specs.Ending.{status_of, answer_by}
use Rattle.surface_top.specs.Outcome.{message, Gains, SinkView, Outside, IsOutcome}
use Rattle.surface_top.specs.Kept.{Asked, events_by, Keeps, specified_run}

-- report regions <n> rounds <r> fired <f> committed <c> cancelled <x>
unfoldable pub report_text : Report → List ℕ
report_text r =
    codes "report regions " ++ decimal r.regions ++ codes " rounds " ++ decimal r.rounds ++ codes " fired " ++ decimal r.fired
    ++ codes " committed " ++ decimal r.committed ++ codes " cancelled " ++ decimal r.cancelled ++ 10 ∷ []

-- whether accepted words want a report, and whether any words do

abbrev pub says_report : Words → Bool
says_report (Run workers seed until samples limit quota slots report) = report
says_report command = false

abbrev pub wants_report : Program → List (List ℕ) → Bool
wants_report program words = option_map_or says_report (reading program words) false

-- the lines that go to the notes with status 0
abbrev pub lines_of : Bool → Report → List ℕ
lines_of wants r = if wants then report_text r else []

-- The report of a run that went to its end: a region for each worker, but no more than there are rows; as many events as
-- the history has; at most one round more. What was fired was committed or cancelled, where that count doesn't
-- stand at its end.
pub record IsReportOf (a : Asked) (r : Report) : Type 0 where
  pub regions : r.regions ≡ min a.options.workers a.manifest.lattice.rows
  pub committed : r.committed ≡ length (events_by a)
  pub rounds : r.rounds ≤ r.committed + 1
  pub fired : r.fired < 18446744073709551615 → r.fired ≡ r.committed + r.cancelled

-- with status 0 it is the report of the crew that was left, where one is wanted
abbrev pub IsReportOfKept : Bool → Status → Option CrewView → Report → Type 0
IsReportOfKept true status.Done (Some c) r = r ≡ report_of c
IsReportOfKept wants s kept r = ⊤

abbrev pub IsReportIf : Option Asked → Report → Type 0
IsReportIf (Some a) r = IsReportOf a r
IsReportIf None r = ⊤

-- the line of the crew that was left, where one is wanted
abbrev pub line_in : Bool → Option CrewView → List ℕ
line_in true (Some c) = report_text (report_of c)
line_in wants kept = []

-- what holds of the report of every crew
pub record IsRightReport (c : CrewView) : Type 0 where
  pub few : (report_of c).rounds ≤ (report_of c).committed + 1
  pub all : c.horizon ≡ end_key (world_in c) → (report_of c).committed ≡ raised 0 (length (world_in c).history)
  pub balanced : c.horizon ≡ end_key (world_in c) → (report_of c).fired < 18446744073709551615 → (report_of c).fired ≡ (report_of c).committed + (report_of c).cancelled

-- how the call ends after lines were written to the notes
abbrev pub Noted : Ending → List ℕ → SinkView → SinkView → Type 0
Noted ending.Done lines old new = Appends old.written new.written lines
Noted ending.WriteFault lines old new = AppendsPrefix old.written new.written lines × Rose old.faults new.faults
Noted ending.Memory lines old new = old ≡ new
Noted e lines old new = ⊥

-- How the lines of status 0 went: there were none to write, and nothing was written; or they were written, or some of them.
abbrev pub Told : List ℕ → Ending → Ending → SinkView → SinkView → Type 0
Told lines before after old new =
    ((after ≡ before) × (new ≡ old) × (before ≡ ending.Done → lines ≡ []))
    ⊎ ((before ≡ ending.Done) × (lines ≢ []) × Noted after lines old new × (old.faults ≤ new.faults))

-- How the message of an ending was written, and with which status the call ends then, and with which crew: with the status
-- of the ending; or memory ran out, that is the status, and no crew is left.
abbrev pub Concluded : Ending → Status → Option CrewView → Option CrewView → SinkView → SinkView → Type 0
Concluded e s kept left old new =
    ((s ≡ status_of e) × (left ≡ kept) × Gains (Rose old.faults new.faults) (message (status_of e) (answer_by e)) old.written new.written × (old.faults ≤ new.faults))
    ⊎ ((s ≡ status.Memory) × (left ≡ None) × Gains (Rose old.faults new.faults) (codes "memory" ++ 10 ∷ []) old.written new.written)

-- What a call leaves outside, by the answer of its words and bytes, and the crew and the report of a run that they ask for.
abbrev pub IsAnsweredCall : Program → List (List ℕ) → Status → Option CrewView → Outside → Outside → Type 0
IsAnsweredCall program words s kept old new =
    (report : Report) × IsReportOfKept (wants_report program words) s kept report
    × IsOutcome (specified_answer program words) (λ bytes. Keeps s (specified_run program words bytes) kept × IsReportIf (specified_run program words bytes) report) (lines_of (wants_report program words) report) s old new
