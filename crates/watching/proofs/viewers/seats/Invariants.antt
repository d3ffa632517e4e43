use Rattle.std.proofs.Common.{◌≡◌, All, length, vec_len}
use Rattle.watching.specs.Viewing.{IsAt}
use Rattle.watching.proofs.viewers.seats.Given as goal

abbrev pub invariant-loop-reader : goal.invariant-loop-reader
invariant-loop-reader l = (vec_len l.viewers ≡ length l.yielded) × All (IsAt l.publisher.writer.name 0 l.samples) l.viewers.items
