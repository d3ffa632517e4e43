-- The status of the program, and what stands in its sinks.
use Rattle.std.specs.Prelude.{◌≡◌, ◌≢◌, ◌⊎◌, ℕ, Bool, true, false, if◌then◌else◌, List, [], ◌∷◌, ◌++◌, take, Option, IfSome, ⊤, codes, decimal}
use Rattle.std.specs.Io.KnownBytes.{Appends}
use Rattle.surf_outside.specs.Causes.{Rose}
use Rattle.surf_outside.specs.Known.{AppendsPrefix}
use Rattle.surf_kinds.specs.declared.status.Status.{Status}
use Rattle.surf_kinds.specs.declared.status.Status.TheVariants as status
use Rattle.manifest_read.specs.declared.fault.ManifestFault.{ManifestFault}
use Rattle.manifest_read.specs.declared.fault.ManifestKind.{ManifestKind}
use Rattle.manifest_read.specs.declared.fault.ManifestKind.TheVariants as manifest
use Rattle.manifest_read.specs.Faults.{manifest_kind_text, unit_text}
use Rattle.circuit_text.specs.Faults.{kind_name}
use Rattle.circuit_text.specs.declared.fault.CircuitFault.{CircuitFault}
use Rattle.circuit_text.specs.declared.fault.CircuitKind.{CircuitKind}
use Rattle.circuit_text.specs.declared.fault.CircuitKind.TheVariants as circuit
use Rattle.bench_read.specs.Passes.{kind_name as bench_kind_name}
use Rattle.bench_read.specs.declared.fault.BenchFault.{BenchFault}
use Rattle.bench_read.specs.declared.fault.BenchKind.{BenchKind}
use Rattle.bench_read.specs.declared.fault.BenchKind.TheVariants as bench
use Rattle.surface_top.specs.Answer.{Answer, WrongWord, TooLong, BadManifest, BadCircuit, BadNetlist, WrongInputs, TooManySites, EventLimit, Text, text_of}

-- a count above its limit has the status of a limit, every other fault that of a faulty text

abbrev pub is_over : ManifestKind → Bool
is_over manifest.TooManySites = true
is_over manifest.TooManyRules = true
is_over manifest.TooManySpecies = true
is_over kind = false

abbrev pub limit_or_faulty : Bool → Status
limit_or_faulty over = if over then status.Limit else status.Faulty

abbrev pub manifest_status : ManifestKind → Status
manifest_status kind = limit_or_faulty (is_over kind)

abbrev pub are_too_many : CircuitKind → Bool
are_too_many circuit.TooManyNets = true
are_too_many kind = false

abbrev pub circuit_status : CircuitKind → Status
circuit_status kind = limit_or_faulty (are_too_many kind)

abbrev pub has_too_many_nets : BenchKind → Bool
has_too_many_nets bench.TooManyNets = true
has_too_many_nets kind = false

abbrev pub netlist_status : BenchKind → Status
netlist_status kind = limit_or_faulty (has_too_many_nets kind)

-- the status that an answer has where nothing else went wrong
abbrev pub own_status : Answer → Status
own_status (WrongWord index) = status.Words
own_status TooLong = status.Limit
own_status (BadManifest fault) = manifest_status fault.kind
own_status (BadCircuit fault) = circuit_status fault.kind
own_status (BadNetlist fault) = netlist_status fault.kind
own_status (WrongInputs expected given) = status.Faulty
own_status (TooManySites sites) = status.Limit
own_status (EventLimit limit text) = status.Limit
own_status (Text text) = status.Done

-- the status of an answer. A fault of reading or writing may come in its place, and so may running out of memory.
abbrev pub IsStatusOf : Status → Answer → Type 0
IsStatusOf status.ReadFault a = ⊤
IsStatusOf status.WriteFault a = ⊤
IsStatusOf status.Memory a = ⊤
IsStatusOf s a = own_status a ≡ s

-- what the sink has gained: the text that the answer has, or a prefix of it, or nothing
abbrev pub OutGains : Status → Answer → Option (List ℕ) → Option (List ℕ) → Type 0
OutGains status.WriteFault a old new = AppendsPrefix old new (text_of a)
OutGains status.Memory a old new = AppendsPrefix old new (text_of a)
OutGains status.ReadFault a old new = Appends old new []
OutGains s a old new = Appends old new (text_of a)

-- Messages

abbrev pub manifest_note : ManifestFault → List ℕ
manifest_note f = codes "manifest " ++ manifest_kind_text f.kind ++ codes " " ++ unit_text f.kind ++ codes " " ++ decimal f.at ++ 10 ∷ []

abbrev pub circuit_note : CircuitFault → List ℕ
circuit_note f = codes "circuit " ++ kind_name f.kind ++ codes " line " ++ decimal f.line ++ 10 ∷ []

abbrev pub netlist_note : BenchFault → List ℕ
netlist_note f = codes "bench " ++ bench_kind_name f.kind ++ codes " line " ++ decimal f.line ++ 10 ∷ []

abbrev pub inputs_note : ℕ → ℕ → List ℕ
inputs_note expected given = codes "circuit WrongInputs " ++ decimal expected ++ codes " " ++ decimal given ++ 10 ∷ []

-- what an answer has for the notes
abbrev pub answer_note : Answer → List ℕ
answer_note (WrongWord index) = codes "words " ++ decimal index ++ 10 ∷ []
answer_note TooLong = codes "limit bytes 67108864" ++ 10 ∷ []
answer_note (BadManifest fault) = manifest_note fault
answer_note (BadCircuit fault) = circuit_note fault
answer_note (BadNetlist fault) = netlist_note fault
answer_note (WrongInputs expected given) = inputs_note expected given
answer_note (TooManySites sites) = codes "limit sites " ++ decimal sites ++ 10 ∷ []
answer_note (EventLimit limit text) = codes "limit events " ++ decimal limit ++ 10 ∷ []
answer_note (Text text) = []

-- the message on notes
unfoldable pub message : Status → Answer → List ℕ
message status.ReadFault a = codes "read fault" ++ 10 ∷ []
message status.WriteFault a = codes "write fault" ++ 10 ∷ []
message status.Memory a = codes "memory" ++ 10 ∷ []
message s a = answer_note a

-- the whole text where no fault came, else a prefix of it
pub record Gains (Faulted : Type 0) (text : List ℕ) (old new : Option (List ℕ)) : Type 0 where
  pub prefix : AppendsPrefix old new text
  pub whole : (Faulted → ⊥) → Appends old new text

-- what the notes have gained: with status 0 the lines that go there, with the others the message; where writing failed
-- or memory ran out, some of the lines may stand before it
abbrev pub NotesGain : Type 0 → Status → Answer → List ℕ → Option (List ℕ) → Option (List ℕ) → Type 0
NotesGain Faulted status.Done a lines old new = Appends old new lines
NotesGain Faulted status.WriteFault a lines old new = (n : ℕ) × Gains Faulted (take n lines ++ message status.WriteFault a) old new
NotesGain Faulted status.Memory a lines old new = (n : ℕ) × Gains Faulted (take n lines ++ message status.Memory a) old new
NotesGain Faulted s a lines old new = Gains Faulted (message s a) old new

-- What is seen of the outside

-- of a source: the bytes that it has left, where it tells them, and how many faults it had
pub record SourceView : Type 0 where
  pub unread : Option (List ℕ)
  pub faults : ℕ

-- of a sink: the bytes that it holds, where it tells them, and how many faults it had
pub record SinkView : Type 0 where
  pub written : Option (List ℕ)
  pub faults : ℕ

-- of the source, the sink and the notes of a call
pub record Outside : Type 0 where
  pub source : SourceView
  pub out : SinkView
  pub notes : SinkView

abbrev pub source_view : Option (List ℕ) → ℕ → SourceView
source_view unread faults = record { unread = unread; faults = faults }

abbrev pub sink_view : Option (List ℕ) → ℕ → SinkView
sink_view written faults = record { written = written; faults = faults }

abbrev pub outside : SourceView → SinkView → SinkView → Outside
outside source out notes = record { source = source; out = out; notes = notes }

-- Outcomes

-- the answer has a text for the sink
abbrev pub HasText : Answer → Type 0
HasText a = text_of a ≢ []

-- there are lines for the notes, which go there beside a whole text alone
abbrev pub HasLines : Answer → List ℕ → Type 0
HasLines (Text text) lines = lines ≢ []
HasLines a lines = ⊥

-- why a write failed: the sink had a fault, and there is a text for it; or the notes had one, and there are lines for them
abbrev pub HasWriteCause : Answer → List ℕ → Outside → Outside → Type 0
HasWriteCause a lines old new =
    (HasText a × Rose old.out.faults new.out.faults) ⊎ (HasLines a lines × Rose old.notes.faults new.notes.faults)

-- The outcome of a call, by the answer that each list of bytes has, by what else is said of them, and by the lines that go
-- to the notes with status 0: there are bytes, those of the source where it tells them, what the call leaves outside is
-- what their answer says, and the rest is so of these bytes.
pub record IsOutcome (answer : List ℕ → Answer) (Besides : List ℕ → Type 0) (lines : List ℕ) (result : Status) (old new : Outside) : Type 0 where
  pub bytes : List ℕ
  pub agrees : IfSome old.source.unread (λ unread. bytes ≡ unread)
  pub is_of : IsStatusOf result (answer bytes)
  pub out_gains : OutGains result (answer bytes) old.out.written new.out.written
  pub notes_gain : NotesGain (Rose old.notes.faults new.notes.faults) result (answer bytes) lines old.notes.written new.notes.written
  pub cause : result ≡ status.WriteFault → HasWriteCause (answer bytes) lines old new
  pub besides : Besides bytes
  -- where no object had a fault, the status is the answer's own, or memory ran out
  pub complete : (Rose old.source.faults new.source.faults → ⊥) → (Rose old.out.faults new.out.faults → ⊥)
      → (HasLines (answer bytes) lines → Rose old.notes.faults new.notes.faults → ⊥)
      → (result ≡ own_status (answer bytes)) ⊎ (result ≡ status.Memory)
