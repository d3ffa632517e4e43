-- What a reader keeps of the lines that it read, and what a line does to that.
use Rattle.std.specs.Prelude.{◌≡◌, ℕ, ◌+◌, ◌==◌, Bool, List, [], ◌∷◌, ◌++◌, map, length, Option, Some, None, Result, Ok, Err, nat_le, if◌then◌else◌}
use Rattle.circuit_text.specs.declared.kinds.Net.{Net}
use Rattle.circuit_text.specs.declared.kinds.Net.TheVariants as net
use Rattle.circuit_text.specs.declared.fault.CircuitKind.{CircuitKind}
use Rattle.circuit_text.specs.declared.fault.CircuitKind.TheVariants.{UnknownNet, NetTwice, TooManyNets, NoOutput}
use Rattle.circuit_text.specs.declared.fault.CircuitError.{CircuitError}
use Rattle.circuit_text.specs.declared.fault.CircuitError.TheVariants as errors
use Rattle.circuit_text.specs.declared.reader.Refusal.{Refusal}
use Rattle.circuit_text.specs.declared.reader.Refusal.TheVariants as refusals
use Rattle.circuit_text.specs.declared.reader.Reader.{Reader}
use Rattle.species.specs.Texts.{is_in, index_of}
use Rattle.circuit_text.specs.Names.{Name}
use Rattle.circuit_text.specs.Values.{input_count}
use Rattle.circuit_text.specs.Lines.{LineSort, Blank, Inputs, Outputs, OneGate, TwoGate, Formless}
use Rattle.circuit_text.specs.Circuits.{NetList, inputs_from, gate_fault, line_fault, fault_at}
use Rattle.circuit_text.specs.declared.fault.CircuitFault.{CircuitFault}

-- the nets so far with their names, and the names of the outputs
pub record ReaderState : Type 0 where
  pub names : List Name
  pub nets : List Net
  pub output_names : List Name

abbrev pub start : ReaderState
start = record { names = []; nets = []; output_names = [] }

abbrev pub by_fault : Option CircuitKind → ReaderState → Result ReaderState CircuitKind
by_fault (Some kind) k = Err kind
by_fault None k = Ok k

abbrev pub onward : Result ReaderState CircuitKind → (ReaderState → Result ReaderState CircuitKind) → Result ReaderState CircuitKind
onward (Ok k) f = f k
onward (Err kind) f = Err kind

-- an input more
abbrev pub with_net : ReaderState → Name → Net → ReaderState
with_net k name n = record { names = k.names ++ name ∷ []; nets = k.nets ++ n ∷ []; output_names = k.output_names }

abbrev pub input : ReaderState → Name → Result ReaderState CircuitKind
input k name =
    if is_in k.names name then Err NetTwice
    else (if nat_le 65536 (length k.names) then Err TooManyNets else Ok (with_net k name (net.Input (input_count k.nets))))

-- the names, one after the other
unfoldable pub taken : (ReaderState → Name → Result ReaderState CircuitKind) → List Name → ReaderState → Result ReaderState CircuitKind
taken step [] k = Ok k
taken step (name ∷ names) k = onward (step k name) (taken step names)

-- an output more
abbrev pub output : (Name → Bool) → ReaderState → Name → Result ReaderState CircuitKind
output known k name =
    if known name then Ok (record { names = k.names; nets = k.nets; output_names = k.output_names ++ name ∷ [] }) else Err UnknownNet

-- a gate more
abbrev pub gate : (Name → Bool) → ReaderState → Name → List Name → Net → Result ReaderState CircuitKind
gate known k name operands n = by_fault (gate_fault known k.names name operands) (with_net k name n)

-- what a line makes of what was kept, where it has no fault
abbrev pub after : ReaderState → LineSort → ReaderState
after k Blank = k
after k (Inputs names) = record { names = k.names ++ names; nets = k.nets ++ inputs_from (input_count k.nets) names; output_names = k.output_names }
after k (Outputs names) = record { names = k.names; nets = k.nets; output_names = k.output_names ++ names }
after k (OneGate name op a) = with_net k name (net.Gate op (index_of k.names a) None)
after k (TwoGate name op a b) = with_net k name (net.Gate op (index_of k.names a) (Some (index_of k.names b)))
after k Formless = k

abbrev pub next : (Name → Bool) → ReaderState → LineSort → Result ReaderState CircuitKind
next known k line = by_fault (line_fault known k.names line) (after k line)

-- The reader's values

abbrev pub state_of : Reader → ReaderState
state_of s = record { names = s.names; nets = s.nets; output_names = map (λ x. x.now) s.outputs.items }

-- What a call answered is the outcome, unless memory ran out.
abbrev pub Fails : Refusal → Result ReaderState CircuitKind → Type 0
Fails refusals.Memory outcome = Unit {0}
Fails (refusals.Kind kind) outcome = outcome ≡ Err kind

abbrev pub Takes : {A : Type 0} → Result A Refusal → ReaderState → Result ReaderState CircuitKind → Type 0
Takes (Ok x) k outcome = outcome ≡ Ok k
Takes (Err e) k outcome = Fails e outcome

-- The whole text

abbrev pub circuit_by : ReaderState → NetList
circuit_by k = record { names = k.names; nets = k.nets; outputs = map (index_of k.names) k.output_names }

-- what was kept in the end as a circuit; `line` is the number of lines plus 1
abbrev pub ended : ℕ → ReaderState → Result NetList CircuitFault
ended line k =
    if length k.output_names == 0 then Err (fault_at line NoOutput)
    else Ok (circuit_by k)

abbrev pub on_line : ℕ → Result ReaderState CircuitKind → (ReaderState → Result NetList CircuitFault) → Result NetList CircuitFault
on_line line (Ok k) rest = rest k
on_line line (Err kind) rest = Err (fault_at line kind)

-- what the lines, of which the first has this number, make of what was kept
unfoldable pub run : (Name → Bool) → List LineSort → ℕ → ReaderState → Result NetList CircuitFault
run known [] number k = ended number k
run known (line ∷ lines) number k = on_line number (next known k line) (run known lines (number + 1))

-- why a text was not read, of which this line was not taken
abbrev pub error_at : ℕ → Refusal → CircuitError
error_at line refusals.Memory = errors.Memory
error_at line (refusals.Kind kind) = errors.Fault (fault_at line kind)

-- What a reader of all the lines answers is the outcome, unless memory ran out.
abbrev pub Stops : CircuitError → Result NetList CircuitFault → Type 0
Stops errors.Memory outcome = Unit {0}
Stops (errors.Fault f) outcome = outcome ≡ Err f

abbrev pub Reads : Result Reader CircuitError → Result NetList CircuitFault → Type 0
Reads (Ok s) outcome = outcome ≡ Ok (circuit_by (state_of s))
Reads (Err e) outcome = Stops e outcome
