-- The netlist whose circuit text is an answer.
use Rattle.std.proofs.Common.{◌≡◌, ℕ, Bool, true, false, List, Result, Ok, Err, refl, if◌then◌else◌}
use Rattle.bench_read.specs.declared.fault.BenchFault.{BenchFault}
use Rattle.bench_read.specs.Netlists.{Netlist}
use Rattle.bench_read.specs.Chains.{text_of as circuit_text}
use Rattle.surface_top.specs.Answer.{Text, TooLong, bench_answer, by_netlist}

pub netlist_of_text : (long : Bool) (read : Result Netlist BenchFault) (text : List ℕ) → (if long then TooLong else by_netlist bench_answer read) ≡ Text text
    → (n : Netlist) × (read ≡ Ok n) × (circuit_text n ≡ text)
netlist_of_text true read text h = absurd cc
netlist_of_text false (Err fault) text h = absurd cc
netlist_of_text false (Ok n) text h = (n, refl, cc)
