use Rattle.std.proofs.Common.{◌≡◌, ℕ, ◌<◌, [], length, get_or}
use Rattle.std.specs.List.{All, Contains}
use Rattle.bench_read.specs.Readings.{lists_of}
use Rattle.bench_read.proofs.users.add_gate.Given as goal

abbrev pub invariant-loop-operand : goal.invariant-loop-operand
invariant-loop-operand l = record {
  count : length (lists_of l.users.items) ≡ length (lists_of l.fn.users.items);
  added : (k : ℕ) → k < l.operand-index → Contains (get_or (lists_of l.users.items) (get_or l.operands k 0) []) l.item;
  kept : (y d : ℕ) → Contains (get_or (lists_of l.fn.users.items) y []) d → Contains (get_or (lists_of l.users.items) y []) d;
  only : (bound : ℕ) → l.item < bound → ((y : ℕ) → All (λ d. d < bound) (get_or (lists_of l.fn.users.items) y [])) → (y : ℕ) → All (λ d. d < bound) (get_or (lists_of l.users.items) y []);
}
