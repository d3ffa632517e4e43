use Rattle.std.proofs.Common.{◌+◌, ℕ, List, [], drop, Bor}
use Rattle.std.specs.List.{flat_map}
use Rattle.surf_text.proofs.LawLemmas.{parts-within}
use Rattle.surf_outside.proofs.LawLemmas.{puts_as, fails_behind}
use Rattle.bench_read.proofs.writing.put_pieces.Goals as goal

pub returns-in_err-put : goal.returns-in_err-put
returns-in_err-put g c =
    let text : Bor (List ℕ) → List ℕ = λ p. p.now in
    let pieces = c.args.pieces.now in
    let i = c.loop-piece.piece-index in
    puts_as (flat_map text pieces) (parts-within text pieces i (record { ref_ptr = (0, 0); now = [] }) c.loop-piece-test.true)
    (fails_behind _ (flat_map text (drop (i + 1) pieces)) c.from_residual.result c.from_residual.ensures.1 c.loop-piece.invariant c.in_err-put.ensures)
