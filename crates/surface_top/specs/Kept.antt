-- The crew that a call leaves.
use Rattle.std.specs.Prelude.{◌≡◌, ◌≤◌, ℕ, List, length, Bool, Option, Some, None, Result, Ok, Err, if◌then◌else◌}
use Rattle.std.specs.Option.{option_map_or}
use Rattle.surf_kinds.specs.declared.status.Status.{Status}
use Rattle.surf_kinds.specs.declared.status.Status.TheVariants as status
use Rattle.surf_kinds.specs.declared.event.Event.{Event}
use Rattle.lattice.specs.Surface.{first_surface}
use Rattle.warp_core.specs.World.{end_key}
use Rattle.crew.specs.Crews.{CrewView, world_in}
use Rattle.manifest_read.specs.declared.manifest.Manifest.{Manifest}
use Rattle.manifest_read.specs.declared.fault.ManifestFault.{ManifestFault}
use Rattle.manifest_read.specs.Manifest.{manifest_of}
use Rattle.surface_words.specs.declared.commands.Program.{Program}
use Rattle.surface_words.specs.declared.words.Words.{Words}
use Rattle.surface_words.specs.declared.words.Words.TheVariants.{Run, Stress, Watch}
use Rattle.workload.specs.Generated.{generated_manifest}
use Rattle.surface_words.specs.Reading.{reading}
use Rattle.surface_top.specs.declared.call.ManifestJob.{ManifestJob}
use Rattle.surface_top.specs.declared.call.ManifestJob.TheVariants as job
use Rattle.surface_top.specs.declared.run.RunOptions.{RunOptions}
use Rattle.surface_top.specs.declared.ending.Ending.{Ending}
use Rattle.surface_top.specs.declared.ending.Ending.TheVariants as ending
use Rattle.surface_top.specs.Answer.{scene_of, is_too_long}
use Rattle.run_writer.specs.RunText.{Scene, events_of}
use Rattle.run_writer.specs.Crewed.{IsPastLimit}
use Rattle.surface_top.specs.Crewed.{IsCrewFor, first_of}

-- a run that was asked for: of a manifest, with these options
pub record Asked : Type 0 where
  pub manifest : Manifest
  pub options : RunOptions

abbrev pub scene_by : Asked → Scene
scene_by a = scene_of a.options.seed a.options.until a.options.samples a.options.limit a.manifest

-- the events of its history
abbrev pub events_by : Asked → List Event
events_by a = events_of (scene_by a) (first_surface a.manifest.cells)

-- what a job runs, and what it runs of a text

abbrev pub run_by : ManifestJob → Manifest → Option Asked
run_by (job.Run options) m = Some (record { manifest = m; options = options })
run_by j m = None

abbrev pub run_read : (Manifest → Option Asked) → Result Manifest ManifestFault → Option Asked
run_read f (Ok m) = f m
run_read f (Err fault) = None

-- what accepted words run of the bytes that they are given, and what any words run of them

abbrev pub stress_options : ℕ → RunOptions
stress_options workers = record { workers = workers; quota = 256; slots = 256; seed = None; until = None; samples = 0; limit = 10000000 }

abbrev pub run_within : Words → List ℕ → Option Asked
run_within (Run workers seed until samples limit quota slots report) bytes =
    run_read (run_by (job.Run (record { workers = workers; quota = quota; slots = slots; seed = seed; until = until; samples = samples; limit = limit }))) (manifest_of bytes)
run_within (Watch workers seed until samples limit quota slots viewers frames) bytes =
    run_read (run_by (job.Run (record { workers = workers; quota = quota; slots = slots; seed = seed; until = until; samples = samples; limit = limit }))) (manifest_of bytes)
run_within (Stress workers number) bytes = Some (record { manifest = generated_manifest number; options = stress_options workers })
run_within command bytes = None

abbrev pub run_to : Words → List ℕ → Option Asked
run_to command bytes = if is_too_long command bytes then None else run_within command bytes

abbrev pub specified_run : Program → List (List ℕ) → List ℕ → Option Asked
specified_run program words bytes = option_map_or (λ command. run_to command bytes) (reading program words) None

-- What is left of it

abbrev pub IsCrewOf : Asked → CrewView → Type 0
IsCrewOf a c = IsCrewFor (scene_by a).network (scene_by a).until (first_of a.manifest) a.options c

-- a crew of this run that has finished; its history has no more events than any limit allows
abbrev pub HasFinished : Asked → Option CrewView → Type 0
HasFinished a kept =
    (c : CrewView) × (kept ≡ Some c) × IsCrewOf a c × (c.horizon ≡ end_key (world_in c)) × (length (events_by a) ≤ 10000000)

-- one whose horizon is above the key of the event past the limit, finished or not
abbrev pub HasPassed : Asked → Option CrewView → Type 0
HasPassed a kept = (c : CrewView) × (kept ≡ Some c) × IsCrewOf a c × IsPastLimit (scene_by a) c

-- the crew of a run that went to its end or met the limit, and none after a fault
abbrev pub left_by : Ending → CrewView → Option CrewView
left_by ending.Done c = Some c
left_by (ending.EventLimit limit) c = Some c
left_by e c = None

-- what a run that ended so leaves; another ending is none of a run
abbrev pub RunLeaves : Ending → Asked → Option CrewView → Type 0
RunLeaves ending.Done a kept = HasFinished a kept
RunLeaves (ending.EventLimit limit) a kept = HasPassed a kept
RunLeaves ending.ReadFault a kept = kept ≡ None
RunLeaves ending.WriteFault a kept = kept ≡ None
RunLeaves ending.Memory a kept = kept ≡ None
RunLeaves e a kept = ⊥

-- where nothing runs, no crew is left
abbrev pub Leaves : Ending → Option Asked → Option CrewView → Type 0
Leaves e (Some a) kept = RunLeaves e a kept
Leaves e None kept = kept ≡ None

-- The crew that a call leaves, by its status: with status 0 one that has finished, with the event limit one that is past
-- it, and else none.
abbrev pub Keeps : Status → Option Asked → Option CrewView → Type 0
Keeps status.Done (Some a) kept = HasFinished a kept
Keeps status.Limit (Some a) kept = HasPassed a kept
Keeps s a kept = kept ≡ None
