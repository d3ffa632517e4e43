-- How a call ends, before its message is written.
use Rattle.std.specs.Prelude.{◌≡◌, ◌<◌, ◌≤◌, ◌^◌, ℕ, List, [], length, Option, None, Result, Ok, Err, ⊤, IsSome, IfSome}
use Rattle.surf_outside.specs.Causes.{Rose}
use Rattle.surf_kinds.specs.declared.status.Status.{Status}
use Rattle.surf_kinds.specs.declared.status.Status.TheVariants as status
use Rattle.surface_words.specs.declared.words.Words.{Words}
use Rattle.surface_words.specs.Reading.{IsEnsembleInRange}
use Rattle.manifest_read.specs.declared.manifest.Manifest.{Manifest}
use Rattle.manifest_read.specs.declared.fault.ManifestFault.{ManifestFault}
use Rattle.manifest_write.specs.Canon.{canonical_text}
use Rattle.circuit_text.specs.declared.fault.CircuitFault.{CircuitFault}
use Rattle.circuit_text.specs.Circuits.{NetList}
use Rattle.bench_read.specs.declared.fault.BenchFault.{BenchFault}
use Rattle.bench_read.specs.Netlists.{Netlist}
use Rattle.surface_top.specs.declared.call.ManifestJob.{ManifestJob}
use Rattle.surface_top.specs.declared.call.ManifestJob.TheVariants as job
use Rattle.surface_top.specs.declared.call.CircuitJob.{CircuitJob}
use Rattle.surface_top.specs.declared.call.CircuitJob.TheVariants as task
use Rattle.surface_top.specs.declared.run.RunOptions.{RunOptions}
use Rattle.run_writer.specs.declared.pages.Stop.{Stop}
use Rattle.run_writer.specs.declared.pages.Stop.TheVariants as stop
use Rattle.surface_top.specs.declared.ending.Ending.{Ending}
use Rattle.surface_top.specs.declared.ending.Ending.TheVariants as ending
use Rattle.surface_top.specs.Answer.{Answer, WrongWord, TooLong, BadManifest, BadCircuit, BadNetlist, WrongInputs, TooManySites, EventLimit, Text, run_answer, scene_of, settings_of, ensemble_answer, compile_answer, value_answer}
use Rattle.surface_top.specs.Checks.{check_text}
use Rattle.surface_top.specs.Outcome.{own_status, HasText, OutGains}

-- the answer of an ending, but for its text
abbrev pub answer_by : Ending → Answer
answer_by ending.Done = Text []
answer_by (ending.WrongWord index) = WrongWord index
answer_by ending.TooLong = TooLong
answer_by (ending.BadManifest fault) = BadManifest fault
answer_by (ending.BadCircuit fault) = BadCircuit fault
answer_by (ending.BadNetlist fault) = BadNetlist fault
answer_by (ending.WrongInputs expected given) = WrongInputs expected given
answer_by (ending.TooManySites sites) = TooManySites sites
answer_by (ending.EventLimit limit) = EventLimit limit []
answer_by ending.ReadFault = Text []
answer_by ending.WriteFault = Text []
answer_by ending.Memory = Text []

abbrev pub status_of : Ending → Status
status_of ending.ReadFault = status.ReadFault
status_of ending.WriteFault = status.WriteFault
status_of ending.Memory = status.Memory
status_of e = own_status (answer_by e)

-- the ending is the answer's; a fault of the outside and want of memory may come in its place
abbrev pub IsEndingOf : Ending → Answer → Type 0
IsEndingOf ending.Done a = (text : List ℕ) × (a ≡ Text text)
IsEndingOf (ending.WrongWord index) a = a ≡ WrongWord index
IsEndingOf ending.TooLong a = a ≡ TooLong
IsEndingOf (ending.BadManifest fault) a = a ≡ BadManifest fault
IsEndingOf (ending.BadCircuit fault) a = a ≡ BadCircuit fault
IsEndingOf (ending.BadNetlist fault) a = a ≡ BadNetlist fault
IsEndingOf (ending.WrongInputs expected given) a = a ≡ WrongInputs expected given
IsEndingOf (ending.TooManySites sites) a = a ≡ TooManySites sites
IsEndingOf (ending.EventLimit limit) a = (text : List ℕ) × (a ≡ EventLimit limit text)
IsEndingOf ending.ReadFault a = ⊤
IsEndingOf ending.WriteFault a = HasText a
IsEndingOf ending.Memory a = ⊤

-- an ending that isn't a fault of the source, and what the sink gained of the answer
pub record Answered (a : Answer) (e : Ending) (old new : Option (List ℕ)) (faults now : ℕ) : Type 0 where
  pub is_of : IsEndingOf e a
  pub gains : OutGains (status_of e) a old new
  pub write : e ≡ ending.WriteFault → Rose faults now
  pub read : e ≡ ending.ReadFault → ⊥

-- The ending of a call, by the answer that each list of bytes has and by what else is said of them: there are bytes, those
-- of the source where it tells them, of whose answer it is the ending, the sink gained what that answer says, and the rest
-- is so of these bytes.
pub record EndsAs (answer : List ℕ → Answer) (Besides : List ℕ → Type 0) (e : Ending) (unread : Option (List ℕ)) (old new : Option (List ℕ)) : Type 0 where
  pub bytes : List ℕ
  pub agrees : IfSome unread (λ all. bytes ≡ all)
  pub is_of : IsEndingOf e (answer bytes)
  pub gains : OutGains (status_of e) (answer bytes) old new
  pub besides : Besides bytes

-- wrong words are answered; right ones never
abbrev pub IsWordsAnswer : Ending → Option Words → Type 0
IsWordsAnswer (ending.WrongWord index) command = command ≡ None
IsWordsAnswer e command = IsSome command

-- what is done with a manifest, as an answer
abbrev pub manifest_answer : ManifestJob → Manifest → Answer
manifest_answer job.Check m = Text (check_text m)
manifest_answer job.Print m = Text (canonical_text m)
manifest_answer (job.Run options) m = run_answer (scene_of options.seed options.until options.samples options.limit m) m
manifest_answer (job.Ensemble options) m = ensemble_answer (settings_of options.workers options.seeds options.first options.until options.limit m) m

-- what is done with a circuit and a word with its inputs, as an answer
abbrev pub circuit_answer : CircuitJob → List ℕ → NetList → Answer
circuit_answer (task.Compile kind) word c = compile_answer kind word c
circuit_answer task.Value word c = value_answer word c

-- the bounds of the options of a run
pub record HasBounds (options : RunOptions) : Type 0 where
  pub some_workers : 1 ≤ options.workers
  pub workers : options.workers ≤ 64
  pub some_quota : 1 ≤ options.quota
  pub quota : options.quota ≤ 65536
  pub some_slots : 1 ≤ options.slots
  pub slots : options.slots ≤ 65536
  pub until : IfSome options.until (λ ticks. ticks ≤ 10 ^ 15)
  pub samples : options.samples ≤ 10000
  pub limit : options.limit ≤ 10000000

abbrev pub IsWithin : ManifestJob → Type 0
IsWithin job.Check = ⊤
IsWithin job.Print = ⊤
IsWithin (job.Run options) = HasBounds options
IsWithin (job.Ensemble options) = IsEnsembleInRange options.workers options.seeds options.until options.limit

-- the ending that stands for a text without a manifest
abbrev pub IsNoManifest : Ending → Result Manifest ManifestFault → Type 0
IsNoManifest (ending.BadManifest fault) read = read ≡ Err fault
IsNoManifest ending.Memory read = ⊤
IsNoManifest e read = ⊥

-- the ending that stands for a text without a circuit
abbrev pub IsNoCircuit : Ending → Result NetList CircuitFault → Type 0
IsNoCircuit (ending.BadCircuit fault) read = read ≡ Err fault
IsNoCircuit ending.Memory read = ⊤
IsNoCircuit e read = ⊥

-- the ending that stands for a text without a netlist
abbrev pub IsNoNetlist : Ending → Result Netlist BenchFault → Type 0
IsNoNetlist (ending.BadNetlist fault) read = read ≡ Err fault
IsNoNetlist ending.Memory read = ⊤
IsNoNetlist e read = ⊥

-- the ending that stands for a source that wasn't read whole: it had a fault or too many bytes, or memory ran out
abbrev pub IsUnread : Ending → Option (List ℕ) → Type 0
IsUnread ending.ReadFault unread = ⊤
IsUnread ending.TooLong unread = (bytes : List ℕ) × IfSome unread (λ all. bytes ≡ all) × (67108864 < length bytes)
IsUnread ending.Memory unread = ⊤
IsUnread e unread = ⊥

-- the ending doesn't name a word
abbrev pub IsAccepted : Ending → Type 0
IsAccepted (ending.WrongWord index) = ⊥
IsAccepted e = ⊤

-- how the call ends after a run with this limit
abbrev pub run_ending : {T : Type 0} → ℕ → Result T Stop → Ending
run_ending limit (Ok x) = ending.Done
run_ending limit (Err stop.Limit) = ending.EventLimit limit
run_ending limit (Err stop.Write) = ending.WriteFault
run_ending limit (Err stop.Memory) = ending.Memory

-- how it ends after a text that has no limit
abbrev pub write_ending : {T : Type 0} → Result T Stop → Ending
write_ending (Ok x) = ending.Done
write_ending (Err stop.Limit) = ending.Memory
write_ending (Err stop.Write) = ending.WriteFault
write_ending (Err stop.Memory) = ending.Memory
