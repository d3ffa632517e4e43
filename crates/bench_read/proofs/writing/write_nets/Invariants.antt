use Rattle.std.proofs.Common.{◌≡◌, take}
use Rattle.surf_outside.specs.Puts.{Wrote}
use Rattle.bench_read.specs.Chains.{net_lines, ended_lines}
use Rattle.bench_read.proofs.writing.write_nets.Given as goal

abbrev pub invariant-loop-net : goal.invariant-loop-net
invariant-loop-net g l = record {
  wrote : Wrote (g.O.Sink.written l.fn.out) (g.O.Sink.written l.out) (g.O.Sink.faults l.fn.out) (g.O.Sink.faults l.out)
      (ended_lines (take l.net-index (net_lines 0 l.nets)));
  number : l.number ≡ l.net-index;
}
