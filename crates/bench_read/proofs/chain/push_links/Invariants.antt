use Rattle.std.proofs.Common.{◌≡◌, ◌+◌, ◌∷◌, [], ◌++◌, length, drop}
use Rattle.bench_read.specs.Chains.{links}
use Rattle.bench_read.proofs.chain.push_links.Given as goal

abbrev pub invariant-loop-b : goal.invariant-loop-b
invariant-loop-b l = record {
  links : l.nets.items ++ links (length l.nets.items) l.op l.left (drop l.b-index l.middle ++ l.last ∷ []) ≡ l.fn.nets.items ++ links (length l.fn.nets.items) l.op l.fn.a l.fn.operands;
  count : length l.nets.items ≡ length l.fn.nets.items + l.b-index;
}
