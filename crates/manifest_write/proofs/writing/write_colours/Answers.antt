use Rattle.std.proofs.Common.{◌++◌, codes, sym, ap, ◌∙◌}
use Rattle.surface_rows.specs.Rows.{lines_text}
use Rattle.surf_outside.proofs.LawLemmas.{wrote_by, puts_as, wrote_more, puts_after, fails_within, fails_behind}
use Rattle.manifest_write.specs.Canon.{colour_lines}
use Rattle.manifest_write.proofs.Spellings.Forms.{section-text, section-end}
use Rattle.manifest_write.proofs.writing.write_colours.Goals as goal

pub returns-in_err-put : goal.returns-in_err-put
returns-in_err-put g c =
    let lines = c.in-Some.lines in
    puts_as (lines_text (colour_lines c.args.colours.now))
    (section-text (codes "!START_COLORMAP") (codes "!END_COLORMAP") lines ∙ ap (λ o. lines_text (colour_lines o)) (sym c.in-Some.is))
    (fails_within _ (lines_text lines ++ codes "!END_COLORMAP\n") c.from_residual.result c.from_residual.ensures.1 c.in_err-put.ensures)

pub returns-in_err-write_lines : goal.returns-in_err-write_lines
returns-in_err-write_lines g c =
    let lines = c.in-Some.lines in
    puts_as (lines_text (colour_lines c.args.colours.now))
    (ap (λ ls. (codes "!START_COLORMAP\n" ++ lines_text ls) ++ codes "!END_COLORMAP\n") c.as_slice.ensures
    ∙ section-end (codes "!START_COLORMAP") (codes "!END_COLORMAP") lines ∙ ap (λ o. lines_text (colour_lines o)) (sym c.in-Some.is))
    (fails_behind _ (codes "!END_COLORMAP\n") c.from_residual-in_err-write_lines.result c.from_residual-in_err-write_lines.ensures.1 (wrote_by c.in_ok-put.ensures) c.in_err-write_lines.ensures)

pub returns : goal.returns
returns g c =
    let lines = c.in-Some.lines in
    puts_as (lines_text (colour_lines c.args.colours.now))
    (ap (λ ls. (codes "!START_COLORMAP\n" ++ lines_text ls) ++ codes "!END_COLORMAP\n") c.as_slice.ensures
    ∙ section-end (codes "!START_COLORMAP") (codes "!END_COLORMAP") lines ∙ ap (λ o. lines_text (colour_lines o)) (sym c.in-Some.is))
    (puts_after c.put-2.result (wrote_more (wrote_by c.in_ok-put.ensures) (wrote_by c.in_ok-write_lines.ensures)) c.put-2.ensures)
