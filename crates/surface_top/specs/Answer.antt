-- What the program answers to words and bytes.
use Rattle.std.specs.Prelude.{ℕ, ◌^◌, List, [], length, Bool, false, ◌&&◌, Option, Some, None, Result, Ok, Err, unwrap_or, nat_lt, ◌==◌, if◌then◌else◌, slice_index_or}
use Rattle.std.specs.Option.{option_map_or}
use Rattle.lattice.specs.Surface.{first_surface}
use Rattle.manifest_read.specs.declared.manifest.Manifest.{Manifest}
use Rattle.manifest_read.specs.declared.fault.ManifestFault.{ManifestFault}
use Rattle.manifest_read.specs.Manifest.{manifest_of}
use Rattle.manifest_write.specs.Canon.{canonical_text}
use Rattle.circuit_text.specs.declared.fault.CircuitFault.{CircuitFault}
use Rattle.circuit_text.specs.Circuits.{NetList, circuit_in}
use Rattle.circuit_text.specs.Values.{input_count}
use Rattle.bench_read.specs.declared.fault.BenchFault.{BenchFault}
use Rattle.bench_read.specs.Netlists.{Netlist, netlist_in}
use Rattle.bench_read.specs.Chains.{text_of as circuit_text}
use Rattle.gate_layout.specs.Table.{Table}
use Rattle.gate_layout.specs.Layout.{site_count, layout}
use Rattle.track_layout.specs.Tracks.{compact_table, site_count as compact_sites}
use Rattle.track_layout.specs.Turns.{tracks_of}
use Rattle.crn_compile.specs.Compiled.{compiled_manifest}
use Rattle.workload.specs.Generated.{generated_manifest}
use Rattle.ensemble.specs.declared.outcome.EnsembleSettings.{EnsembleSettings}
use Rattle.ensemble.specs.Outcomes.{outcomes}
use Rattle.ensemble.specs.Texts.{ensemble_text}
use Rattle.surface_words.specs.declared.commands.Program.{Program}
use Rattle.surface_words.specs.declared.words.Words.{Words}
use Rattle.surface_words.specs.declared.words.Words.TheVariants.{Check, Print, Run, Compile, Value, Gen, Stress, Ensemble, Bench, Compact, Watch}
use Rattle.surface_words.specs.FirstWrong.{first_wrong}
use Rattle.surface_words.specs.Reading.{reading, reads}
use Rattle.surface_top.specs.declared.answers.LayoutKind.{LayoutKind}
use Rattle.surface_top.specs.declared.answers.LayoutKind.TheVariants as on
use Rattle.surface_top.specs.Checks.{check_text}
use Rattle.run_writer.specs.RunText.{Scene, events_of, run_text}
use Rattle.run_writer.specs.StressText.{stress_text}
use Rattle.surface_top.specs.ValueText.{bits_of, value_text}

pub data Answer : Type 0 where
  WrongWord : (index : ℕ) → Answer
  TooLong : Answer
  BadManifest : (fault : ManifestFault) → Answer
  BadCircuit : (fault : CircuitFault) → Answer
  BadNetlist : (fault : BenchFault) → Answer
  WrongInputs : (expected given : ℕ) → Answer
  TooManySites : (sites : ℕ) → Answer
  EventLimit : (limit : ℕ) (text : List ℕ) → Answer
  Text : (text : List ℕ) → Answer

-- a run

-- a seed and a duration that the words give stand in place of the manifest's
abbrev pub scene_of : Option ℕ → Option ℕ → ℕ → ℕ → Manifest → Scene
scene_of seed until samples limit m = record {
  names = m.names;
  network = record { lattice = m.lattice; rules = m.rules; seed = unwrap_or seed m.seed };
  until = unwrap_or until m.until;
  samples = samples;
  limit = limit;
}

-- the run text, which ends at the limit where the history has more events
abbrev pub run_answer : Scene → Manifest → Answer
run_answer s m =
    if nat_lt s.limit (length (events_of s (first_surface m.cells))) then EventLimit s.limit (run_text s (first_surface m.cells))
    else Text (run_text s (first_surface m.cells))

-- an ensemble

-- what is asked of the seeds; a duration that the words give stands in place of the manifest's
abbrev pub settings_of : ℕ → ℕ → ℕ → Option ℕ → ℕ → Manifest → EnsembleSettings
settings_of workers seeds first until limit m = record {
  first = first;
  seeds = seeds;
  until = unwrap_or until m.until;
  limit = limit;
  workers = workers;
}

-- the text of the outcomes of the seeds. A run with more events than the limit is said in it, and is no limit of the call.
abbrev pub ensemble_answer : EnsembleSettings → Manifest → Answer
ensemble_answer s m = Text (ensemble_text m.names (outcomes m s))

abbrev pub by_manifest : (Manifest → Answer) → Result Manifest ManifestFault → Answer
by_manifest f (Ok m) = f m
by_manifest f (Err fault) = BadManifest fault

-- the values of the outputs, for a bit of each input
abbrev pub value_answer : List ℕ → NetList → Answer
value_answer word c =
    if length word == input_count c.nets then Text (value_text c (bits_of word)) else WrongInputs (input_count c.nets) (length word)

-- the cells of a circuit on a layout, and its table
abbrev pub sites_on : LayoutKind → NetList → ℕ
sites_on on.Closed c = site_count c.nets
sites_on on.Compact c = compact_sites (tracks_of c)

abbrev pub table_of : LayoutKind → NetList → Table
table_of on.Closed c = layout c
table_of on.Compact c = compact_table (tracks_of c)

-- the canonical text of the manifest of a circuit, for a bit of each input; its layout has at most 2^20 sites
abbrev pub compile_answer : LayoutKind → List ℕ → NetList → Answer
compile_answer kind word c =
    if length word == input_count c.nets then
    (if nat_lt (2 ^ 20) (sites_on kind c) then TooManySites (sites_on kind c) else Text (canonical_text (compiled_manifest c (bits_of word) (table_of kind c))))
    else WrongInputs (input_count c.nets) (length word)

abbrev pub by_circuit : (NetList → Answer) → Result NetList CircuitFault → Answer
by_circuit f (Ok c) = f c
by_circuit f (Err fault) = BadCircuit fault

-- the circuit text of a netlist
abbrev pub bench_answer : Netlist → Answer
bench_answer n = Text (circuit_text n)

abbrev pub by_netlist : (Netlist → Answer) → Result Netlist BenchFault → Answer
by_netlist f (Ok n) = f n
by_netlist f (Err fault) = BadNetlist fault

-- the canonical text of the manifest of a number
abbrev pub gen_answer : ℕ → Answer
gen_answer number = Text (canonical_text (generated_manifest number))

-- a run with up to 10,000,000 events, of which no surface is shown
abbrev pub stress_scene : Manifest → Scene
stress_scene m = scene_of None None 0 10000000 m

-- what is said of the run of a number's manifest, and nothing where it has more events
abbrev pub stress_answer : ℕ → Manifest → Answer
stress_answer number m =
    if nat_lt 10000000 (length (events_of (stress_scene m) (first_surface m.cells))) then EventLimit 10000000 []
    else Text (stress_text number (stress_scene m) (first_surface m.cells))

-- the word with the inputs; no inputs where there is none
abbrev pub inputs_in : Option ℕ → List (List ℕ) → List ℕ
inputs_in index words = option_map_or (λ i. slice_index_or words i []) index []

-- the answer to accepted words, by what they say, and to the bytes that they are given
abbrev pub answer_within : Words → List (List ℕ) → List ℕ → Answer
answer_within Check words bytes = by_manifest (λ m. Text (check_text m)) (manifest_of bytes)
answer_within Print words bytes = by_manifest (λ m. Text (canonical_text m)) (manifest_of bytes)
answer_within (Run workers seed until samples limit quota slots report) words bytes = by_manifest (λ m. run_answer (scene_of seed until samples limit m) m) (manifest_of bytes)
answer_within (Compile inputs) words bytes = by_circuit (compile_answer on.Closed (inputs_in inputs words)) (circuit_in bytes)
answer_within (Value inputs) words bytes = by_circuit (value_answer (inputs_in inputs words)) (circuit_in bytes)
answer_within (Gen number) words bytes = gen_answer number
answer_within (Stress workers number) words bytes = stress_answer number (generated_manifest number)
answer_within (Ensemble workers seeds first until limit) words bytes =
    by_manifest (λ m. ensemble_answer (settings_of workers seeds first until limit m) m) (manifest_of bytes)
answer_within Bench words bytes = by_netlist bench_answer (netlist_in bytes)
answer_within (Compact inputs) words bytes = by_circuit (compile_answer on.Compact (inputs_in inputs words)) (circuit_in bytes)
answer_within (Watch workers seed until samples limit quota slots viewers frames) words bytes = by_manifest (λ m. run_answer (scene_of seed until samples limit m) m) (manifest_of bytes)

-- a command that reads takes at most 67,108,864 bytes
abbrev pub is_too_long : Words → List ℕ → Bool
is_too_long command bytes = reads command && nat_lt 67108864 (length bytes)

abbrev pub answer_to : List (List ℕ) → Words → List ℕ → Answer
answer_to words command bytes = if is_too_long command bytes then TooLong else answer_within command words bytes

-- The answer of a program to words and to the bytes of its source. Words that aren't accepted have a first wrong one,
-- which is the answer whatever the bytes are; and so has a command that reads nothing one answer whatever they are.
abbrev pub specified_answer : Program → List (List ℕ) → List ℕ → Answer
specified_answer program words bytes =
    option_map_or (λ command. answer_to words command bytes) (reading program words) (WrongWord (unwrap_or (first_wrong program words) 0))

-- whether the words are accepted and their command reads
abbrev pub reads_source : Program → List (List ℕ) → Bool
reads_source program words = option_map_or reads (reading program words) false

-- the text that an answer has for the sink
abbrev pub text_of : Answer → List ℕ
text_of (Text text) = text
text_of (EventLimit limit text) = text
text_of (WrongWord index) = []
text_of TooLong = []
text_of (BadManifest fault) = []
text_of (BadCircuit fault) = []
text_of (BadNetlist fault) = []
text_of (WrongInputs expected given) = []
text_of (TooManySites sites) = []
