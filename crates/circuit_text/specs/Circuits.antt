-- The circuit of a text, or its first fault.
--
-- The verdict of a line depends on the line, on the lines before it, which stand here with the nearest first, and
-- on the names that the well-formed lines of the whole text define.
use Rattle.std.specs.Prelude.{ℕ, ◌+◌, Bool, List, [], ◌∷◌, ◌++◌, length, map, Option, Some, None, Result, Ok, Err, nat_le, ◌==◌, if◌then◌else◌}
use Rattle.std.specs.List.{flat_map}
use Rattle.surf_text.specs.Lines.{lines_of}
use Rattle.circuit_text.specs.declared.kinds.Net.{Net}
use Rattle.circuit_text.specs.declared.kinds.Net.TheVariants as net
use Rattle.circuit_text.specs.declared.fault.CircuitKind.{CircuitKind}
use Rattle.circuit_text.specs.declared.fault.CircuitKind.TheVariants.{BadLine, UnknownNet, NetTwice, NetLater, NoOutput, TooManyNets}
use Rattle.circuit_text.specs.declared.fault.CircuitFault.{CircuitFault}
use Rattle.species.specs.Texts.{is_in, index_of}
use Rattle.circuit_text.specs.Names.{Name}
use Rattle.circuit_text.specs.Lines.{LineSort, Blank, Inputs, Outputs, OneGate, TwoGate, Formless, sort_of}
use Rattle.circuit_text.specs.Values.{input_count}

-- a circuit: the names of its nets, the nets, and the numbers of the nets that are outputs
pub record NetList : Type 0 where
  pub names : List Name
  pub nets : List Net
  pub outputs : List ℕ

-- the nets that a line defines, in their order
abbrev pub defines : LineSort → List Name
defines Blank = []
defines (Inputs names) = names
defines (Outputs names) = []
defines (OneGate name op a) = name ∷ []
defines (TwoGate name op a b) = name ∷ []
defines Formless = []

-- the names that the nets before a line have, by their numbers
abbrev pub defined : List LineSort → List Name
defined [] = []
defined (line ∷ before) = defined before ++ defines line

-- the nets that a line names as outputs
abbrev pub puts_out : LineSort → List Name
puts_out Blank = []
puts_out (Inputs names) = []
puts_out (Outputs names) = names
puts_out (OneGate name op a) = []
puts_out (TwoGate name op a b) = []
puts_out Formless = []

abbrev pub put_out : List LineSort → List Name
put_out [] = []
put_out (line ∷ before) = put_out before ++ puts_out line

-- an input for each name, with rising numbers
abbrev pub inputs_from : ℕ → List Name → List Net
inputs_from k [] = []
inputs_from k (name ∷ names) = net.Input k ∷ inputs_from (k + 1) names

-- the nets of a line, after nets with these names
abbrev pub nets_in : List Name → List Net → LineSort → List Net
nets_in names nets Blank = []
nets_in names nets (Inputs more) = inputs_from (input_count nets) more
nets_in names nets (Outputs more) = []
nets_in names nets (OneGate name op a) = net.Gate op (index_of names a) None ∷ []
nets_in names nets (TwoGate name op a b) = net.Gate op (index_of names a) (Some (index_of names b)) ∷ []
nets_in names nets Formless = []

abbrev pub nets_of : List LineSort → List Net
nets_of [] = []
nets_of (line ∷ before) = nets_of before ++ nets_in (defined before) (nets_of before) line

-- Faults

-- a name that is defined after these
abbrev pub name_fault : List Name → Name → Option CircuitKind → Option CircuitKind
name_fault names name rest =
    if is_in names name then Some NetTwice else (if nat_le 65536 (length names) then Some TooManyNets else rest)

-- the names of an input line, from the left
abbrev pub inputs_fault : List Name → List Name → Option CircuitKind
inputs_fault names [] = None
inputs_fault names (name ∷ more) = name_fault names name (inputs_fault (names ++ name ∷ []) more)

-- the operands of a gate, from the left; a name is known where a well-formed line of the text defines it
abbrev pub operands_fault : (Name → Bool) → List Name → List Name → Option CircuitKind
operands_fault known names [] = None
operands_fault known names (x ∷ operands) =
    if is_in names x then operands_fault known names operands else Some (if known x then NetLater else UnknownNet)

abbrev pub or_many : List Name → Option CircuitKind → Option CircuitKind
or_many names (Some kind) = Some kind
or_many names None = if nat_le 65536 (length names) then Some TooManyNets else None

abbrev pub gate_fault : (Name → Bool) → List Name → Name → List Name → Option CircuitKind
gate_fault known names name operands =
    if is_in names name then Some NetTwice else or_many names (operands_fault known names operands)

-- the names of an output line, from the left
abbrev pub outputs_fault : (Name → Bool) → List Name → Option CircuitKind
outputs_fault known [] = None
outputs_fault known (x ∷ names) = if known x then outputs_fault known names else Some UnknownNet

-- the verdict of a line after nets with these names
abbrev pub line_fault : (Name → Bool) → List Name → LineSort → Option CircuitKind
line_fault known names Blank = None
line_fault known names (Inputs more) = inputs_fault names more
line_fault known names (Outputs more) = outputs_fault known more
line_fault known names (OneGate name op a) = gate_fault known names name (a ∷ [])
line_fault known names (TwoGate name op a b) = gate_fault known names name (a ∷ b ∷ [])
line_fault known names Formless = Some BadLine

-- The outcome

abbrev pub circuit_of : List LineSort → NetList
circuit_of lines = record {
  names = defined lines;
  nets = nets_of lines;
  outputs = map (index_of (defined lines)) (put_out lines);
}

abbrev pub fault_at : ℕ → CircuitKind → CircuitFault
fault_at line kind = record { kind = kind; line = line }

abbrev pub unless : ℕ → Option CircuitKind → Result NetList CircuitFault → Result NetList CircuitFault
unless line (Some kind) rest = Err (fault_at line kind)
unless line None rest = rest

-- an output line names one output or more, so a text without one has no outputs
abbrev pub at_end : List LineSort → Result NetList CircuitFault
at_end before = if length (put_out before) == 0 then Err (fault_at (length before + 1) NoOutput) else Ok (circuit_of before)

-- the circuit of the lines, which stand behind others, or their first fault
abbrev pub outcome : (Name → Bool) → List LineSort → List LineSort → Result NetList CircuitFault
outcome known [] before = at_end before
outcome known (line ∷ lines) before = unless (length before + 1) (line_fault known (defined before) line) (outcome known lines (line ∷ before))

-- the circuit of a text, or its first fault
abbrev pub circuit_in : List ℕ → Result NetList CircuitFault
circuit_in text =
    let lines = map sort_of (lines_of text) in
    outcome (is_in (flat_map defines lines)) lines []
