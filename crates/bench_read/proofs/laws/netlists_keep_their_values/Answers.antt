use Rattle.bench_read.proofs.ChainAgrees.{netlist-values}
use Rattle.bench_read.proofs.Writable.{netlist-inputs, netlist-read}
use Rattle.bench_read.proofs.TextSound.{text-sound}
use Rattle.bench_read.proofs.laws.netlists_keep_their_values.Goals as goal

pub returns-clause-accepted : goal.returns-clause-accepted
returns-clause-accepted c = λ text n h. netlist-read n (text-sound text n h)

pub returns-clause-inputs : goal.returns-clause-inputs
returns-clause-inputs c = netlist-inputs

pub returns-clause-values : goal.returns-clause-values
returns-clause-values c = λ text n h inputs count. netlist-values n inputs (text-sound text n h) count
