use Rattle.std.proofs.Common.{◌≡◌, ℕ, ◌<◌, [], length, map, get_or}
use Rattle.std.specs.List.{All, Contains}
use Rattle.bench_read.specs.Order.{operands_at, item_at}
use Rattle.bench_read.specs.Readings.{item_of, lists_of}
use Rattle.bench_read.proofs.users.users_of.Given as goal

abbrev pub invariant-loop-number : goal.invariant-loop-number
invariant-loop-number l = record {
  count : length (lists_of l.users.items) ≡ length l.items;
  each : (d y : ℕ) → d < l.number → Contains (operands_at (item_at (map item_of l.items) d)) y → Contains (get_or (lists_of l.users.items) y []) d;
  within : (y : ℕ) → All (λ d. d < length l.items) (get_or (lists_of l.users.items) y []);
}
