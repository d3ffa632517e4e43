-- What a line of a form holds.
use Rattle.std.specs.Prelude.{◌≡◌, true, false}
use Rattle.std.specs.List.{list_all}
use Rattle.circuit_text.specs.Names.{is_name}
use Rattle.circuit_text.specs.Values.{has_two}
use Rattle.circuit_text.specs.Lines.{LineSort, Blank, Inputs, Outputs, OneGate, TwoGate, Formless}

-- the names of inputs and outputs are names, and a gate has as many operands as its operation
abbrev pub IsFormed : LineSort → Type 0
IsFormed Blank = Unit {0}
IsFormed (Inputs names) = list_all is_name names ≡ true
IsFormed (Outputs names) = list_all is_name names ≡ true
IsFormed (OneGate name op a) = has_two op ≡ false
IsFormed (TwoGate name op a b) = has_two op ≡ true
IsFormed Formless = Unit {0}
