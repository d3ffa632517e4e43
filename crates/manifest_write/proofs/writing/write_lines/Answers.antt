use Rattle.std.proofs.Common.{◌+◌, ◌++◌, ap, ◌∙◌, drop, take}
use Rattle.surf_text.proofs.LawLemmas.{parts-within}
use Rattle.surface_rows.specs.Rows.{lines_text}
use Rattle.surf_outside.proofs.LawLemmas.{puts_as, fails_behind}
use Rattle.manifest_write.proofs.Spellings.Loops.{ended}
use Rattle.manifest_write.proofs.writing.write_lines.Goals as goal

pub returns-in_err-put_pieces : goal.returns-in_err-put_pieces
returns-in_err-put_pieces g c =
    let lines = c.args.lines.now in
    let i = c.loop-line.line-index in
    let before = lines_text (take i lines) in
    let after = lines_text (drop (i + 1) lines) in
    puts_as (lines_text lines)
    (ap (λ t. (before ++ ended t) ++ after) (c.as_bytes.ensures.value ∙ c.as_str.ensures ∙ c.line-item.is) ∙ parts-within ended lines i c.line-item.result c.loop-line-test.true)
    (fails_behind _ after c.from_residual.result c.from_residual.ensures.1 c.loop-line.invariant c.in_err-put_pieces.ensures)
