use Rattle.std.proofs.Common.{ℕ, List, take, Bor}
use Rattle.std.specs.List.{flat_map}
use Rattle.surf_outside.specs.Puts.{Wrote}
use Rattle.bench_read.proofs.writing.put_pieces.Given as goal

abbrev pub invariant-loop-piece : goal.invariant-loop-piece
invariant-loop-piece g l =
    Wrote (g.O.Sink.written l.fn.out) (g.O.Sink.written l.out) (g.O.Sink.faults l.fn.out) (g.O.Sink.faults l.out)
    (flat_map (λ (p : Bor (List ℕ)). p.now) (take l.piece-index l.pieces))
