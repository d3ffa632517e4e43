use Rattle.std.proofs.Common.{◌≡◌, length}
use Rattle.frames.proofs.tests.read_and_open.Given as goal

abbrev pub invariant-loop : goal.invariant-loop
invariant-loop g l = (l.reader.writer ≡ l.fn.reader.writer) × (length l.into.counts ≡ 2)
