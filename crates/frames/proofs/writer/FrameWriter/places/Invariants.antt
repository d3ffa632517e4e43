use Rattle.std.proofs.Common.{◌≡◌, All, vec_len}
use Rattle.frames.proofs.writer.FrameWriter.places.Given as goal

abbrev pub invariant-loop : goal.invariant-loop
invariant-loop l = (l.self ≡ l.fn.self) × (vec_len l.readers ≡ l.counter) × All (λ r. r ≡ record { writer = l.fn.self.name; longest = l.fn.self.published }) l.readers.items
