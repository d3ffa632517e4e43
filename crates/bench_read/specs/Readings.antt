-- What the reader's values stand for.
use Rattle.std.specs.Prelude.{◌≡◌, ℕ, List, [], map, Option, Some, None, Vec}
use Rattle.std.specs.Global.{Global}
use Rattle.bench_read.specs.declared.sort.Sort.{Sort}
use Rattle.bench_read.specs.declared.sort.Sort.TheVariants as code
use Rattle.bench_read.specs.declared.second.Item.{Item as ItemValue}
use Rattle.bench_read.specs.declared.second.Item.TheVariants as item
use Rattle.bench_read.specs.declared.first.Refusal.{Refusal}
use Rattle.bench_read.specs.declared.first.Refusal.TheVariants as refusal
use Rattle.bench_read.specs.declared.fault.BenchKind.{BenchKind}
use Rattle.bench_read.specs.declared.fault.BenchError.{BenchError}
use Rattle.bench_read.specs.declared.fault.BenchError.TheVariants as error
use Rattle.bench_read.specs.Passes.{fault_at}
use Rattle.bench_read.specs.declared.bench.PlacedGate.{PlacedGate as GateValue}
use Rattle.bench_read.specs.declared.chain.Circuitry.{Circuitry as CircuitryValue}
use Rattle.bench_read.specs.Chains.{Circuitry}
use Rattle.bench_read.specs.Netlists.{PlacedGate}
use Rattle.bench_read.specs.Order.{Item, InputNet, GateNet}
use Rattle.bench_read.specs.Lines.{Name, LineSort, Blank, Input, Output, Gate, Flop, Formless, operands_of}

-- the operands that were not taken yet
abbrev pub unread_operands : Option (List ℕ) → List Name
unread_operands None = []
unread_operands (Some text) = operands_of text

abbrev pub seen : Sort → LineSort
seen code.Blank = Blank
seen (code.Input name) = Input name.now
seen (code.Output name) = Output name.now
seen (code.Gate name op operands) = Gate name.now op (operands_of operands.now)
seen code.Flop = Flop
seen code.Formless = Formless

-- what a line defines
abbrev pub item_of : ItemValue → Item
item_of item.Input = InputNet
item_of (item.Gate op operands) = GateNet op operands.items

-- A line that was refused has this fault, unless memory ran out.
abbrev pub Refuses : Refusal → Option BenchKind → Type 0
Refuses refusal.Memory fault = Unit {0}
Refuses (refusal.Kind kind) fault = fault ≡ Some kind

abbrev pub error_at : ℕ → Refusal → BenchError
error_at line refusal.Memory = error.Memory
error_at line (refusal.Kind kind) = error.Fault (fault_at line kind)

-- lists of numbers
abbrev pub lists_of : List (Vec ℕ Global) → List (List ℕ)
lists_of vectors = map (λ v. v.items) vectors

-- a gate with the places of its operands
abbrev pub gate_of : GateValue → PlacedGate
gate_of gate = record { op = gate.op; operands = gate.operands.items }

-- a circuit so far
abbrev pub circuitry_by : CircuitryValue → Circuitry
circuitry_by c = record { nets = c.nets.items; at = c.at.items }
