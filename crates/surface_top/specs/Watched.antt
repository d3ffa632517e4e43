-- What `watch` shows of a run beside its text.
use Rattle.std.specs.Prelude.{◌≡◌, ℕ, List, [], Option, Some, None, ⊤}
use Rattle.std.specs.Option.{option_map_or}
use Rattle.surf_kinds.specs.declared.status.Status.{Status}
use Rattle.lattice.specs.Surface.{first_surface}
use Rattle.crew.specs.Crews.{CrewView}
use Rattle.watch_run.specs.declared.beside.Seats.{Seats}
use Rattle.watch_run.specs.Seats.{AreLinesOf}
use Rattle.surface_words.specs.declared.commands.Program.TheVariants as program
use Rattle.surface_words.specs.declared.words.Words.{Words}
use Rattle.surface_words.specs.declared.words.Words.TheVariants as said
use Rattle.surface_words.specs.Reading.{reading}
use Rattle.surface_top.specs.declared.ending.Ending.{Ending}
use Rattle.surface_top.specs.declared.ending.Ending.TheVariants as ending
use Rattle.surface_top.specs.Answer.{specified_answer}
use Rattle.surface_top.specs.Outcome.{Outside, IsOutcome}
use Rattle.surface_top.specs.Kept.{Asked, scene_by, Keeps, specified_run}

-- The seats of viewers that accepted words ask for, and those that any words ask for

abbrev pub no_seats : Seats
no_seats = record { viewers = 0; frames = 0 }

abbrev pub seats_within : Words → Seats
seats_within (said.Watch workers seed until samples limit quota slots viewers frames) = record { viewers = viewers; frames = frames }
seats_within command = no_seats

abbrev pub seats_of : List (List ℕ) → Seats
seats_of words = option_map_or seats_within (reading program.Watch words) no_seats

-- the words ask for a watch
abbrev pub IsWatch : Words → Type 0
IsWatch (said.Watch workers seed until samples limit quota slots viewers frames) = ⊤
IsWatch command = ⊥

-- the lines of viewers of the run that was asked for, and none where none was
abbrev pub AreLines : Seats → Option Asked → List ℕ → Type 0
AreLines seats (Some a) lines = AreLinesOf seats (scene_by a) (first_surface a.manifest.cells) lines
AreLines seats None lines = lines ≡ []

-- a call that is done has such lines
abbrev pub Shows : Ending → Seats → Option Asked → List ℕ → Type 0
Shows e seats a lines = e ≡ ending.Done → AreLines seats a lines

-- What a watch leaves outside, by the answer of its words and bytes, and the crew and the lines of the run that they ask for.
abbrev pub IsWatchedCall : List (List ℕ) → Status → Option CrewView → Outside → Outside → Type 0
IsWatchedCall words s kept old new =
    (lines : List ℕ)
    × IsOutcome (specified_answer program.Watch words) (λ bytes. Keeps s (specified_run program.Watch words bytes) kept × AreLines (seats_of words) (specified_run program.Watch words bytes) lines) lines s old new
