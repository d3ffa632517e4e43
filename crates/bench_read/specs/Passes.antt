-- The faults of the first three passes over the lines of a netlist.
use Rattle.std.specs.Prelude.{ℕ, ◌+◌, ◌-◌, ◌==◌, Bool, List, [], ◌∷◌, ◌++◌, length, max, nat_lt, Option, Some, None, if◌then◌else◌, codes}
use Rattle.std.specs.List.{list_all, flat_map}
use Rattle.species.specs.Texts.{is_in}
use Rattle.bench_read.specs.Lines.{Name, LineSort, Blank, Input, Output, Gate, Flop, Formless}
use Rattle.bench_read.specs.declared.fault.BenchKind.{BenchKind}
use Rattle.bench_read.specs.declared.fault.BenchKind.TheVariants.{BadLine, Sequential, NetTwice, TooManyNets, UnknownNet, NoOutput, Cycle}
use Rattle.bench_read.specs.declared.fault.BenchFault.{BenchFault}

abbrev pub kind_name : BenchKind → List ℕ
kind_name BadLine = codes "BadLine"
kind_name Sequential = codes "Sequential"
kind_name NetTwice = codes "NetTwice"
kind_name TooManyNets = codes "TooManyNets"
kind_name UnknownNet = codes "UnknownNet"
kind_name NoOutput = codes "NoOutput"
kind_name Cycle = codes "Cycle"

-- the net that a line defines
abbrev pub defines : LineSort → List Name
defines Blank = []
defines (Input name) = name ∷ []
defines (Output name) = []
defines (Gate name op operands) = name ∷ []
defines Flop = []
defines Formless = []

-- the net that a line names as an output
abbrev pub puts_out : LineSort → List Name
puts_out Blank = []
puts_out (Input name) = []
puts_out (Output name) = name ∷ []
puts_out (Gate name op operands) = []
puts_out Flop = []
puts_out Formless = []

-- the nets that a line speaks of and doesn't define
abbrev pub uses : LineSort → List Name
uses Blank = []
uses (Input name) = []
uses (Output name) = name ∷ []
uses (Gate name op operands) = operands
uses Flop = []
uses Formless = []

-- a gate of k operands above 2 takes k - 1 nets
abbrev pub gate_nets : ℕ → ℕ
gate_nets count = max 1 (count - 1)

abbrev pub net_count : LineSort → ℕ
net_count Blank = 0
net_count (Input name) = 1
net_count (Output name) = 0
net_count (Gate name op operands) = gate_nets (length operands)
net_count Flop = 0
net_count Formless = 0

abbrev pub fault_at : ℕ → BenchKind → BenchFault
fault_at line kind = record { kind = kind; line = line }

-- the fault of a line that defines a name, behind these names, with so many nets so far
abbrev pub name_fault : List Name → Name → ℕ → Option BenchKind
name_fault names name nets =
    if is_in names name then Some NetTwice else (if nat_lt 65536 nets then Some TooManyNets else None)

-- the fault of a line in the first pass, behind lines that define these names and take so many nets
abbrev pub own_fault : List Name → ℕ → LineSort → Option BenchKind
own_fault names nets Blank = None
own_fault names nets (Input name) = name_fault names name (nets + 1)
own_fault names nets (Output name) = None
own_fault names nets (Gate name op operands) = name_fault names name (nets + gate_nets (length operands))
own_fault names nets Flop = Some Sequential
own_fault names nets Formless = Some BadLine

abbrev pub or_later : ℕ → Option BenchKind → Option BenchFault → Option BenchFault
or_later line (Some kind) later = Some (fault_at line kind)
or_later line None later = later

-- the first fault of the first pass, where the next line has this number
unfoldable pub first_pass : ℕ → List Name → ℕ → List LineSort → Option BenchFault
first_pass number names nets [] = None
first_pass number names nets (line ∷ lines) =
    or_later number (own_fault names nets line) (first_pass (number + 1) (names ++ defines line) (nets + net_count line) lines)

-- the first line that speaks of a net which no line defines
unfoldable pub second_pass : (Name → Bool) → ℕ → List LineSort → Option BenchFault
second_pass known number [] = None
second_pass known number (line ∷ lines) =
    if list_all known (uses line) then second_pass known (number + 1) lines else Some (fault_at number UnknownNet)

-- an output is named
abbrev pub third_pass : List LineSort → Option BenchFault
third_pass lines = if length (flat_map puts_out lines) == 0 then Some (fault_at (length lines + 1) NoOutput) else None
