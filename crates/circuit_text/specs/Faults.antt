-- The names of the kinds of faults.
use Rattle.std.specs.Prelude.{ℕ, List, codes}
use Rattle.circuit_text.specs.declared.fault.CircuitKind.{CircuitKind}
use Rattle.circuit_text.specs.declared.fault.CircuitKind.TheVariants.{BadLine, UnknownNet, NetTwice, NetLater, NoOutput, TooManyNets}

abbrev pub kind_name : CircuitKind → List ℕ
kind_name BadLine = codes "BadLine"
kind_name UnknownNet = codes "UnknownNet"
kind_name NetTwice = codes "NetTwice"
kind_name NetLater = codes "NetLater"
kind_name NoOutput = codes "NoOutput"
kind_name TooManyNets = codes "TooManyNets"
