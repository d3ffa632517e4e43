use Rattle.std.proofs.Common.{◌≡◌, All, length, vec_len}
use Rattle.viewer.proofs.viewer.Viewer.new.Given as goal

abbrev pub invariant-loop : goal.invariant-loop
invariant-loop l = (vec_len l.places ≡ l.counter) × All (λ s. length s.counts ≡ l.kinds) l.places.items
