use Rattle.std.proofs.Common.{sym, ◌∙◌, ap, ◌∷◌}
use Rattle.surf_text.specs.Cuts.{words_of}
use Rattle.surf_text.proofs.Places.{word-first, word-skip, word-last, word-none}
use Rattle.surf_text.proofs.splitting.first_word.Goals as goal

pub returns-then-not-is_empty : goal.returns-then-not-is_empty
returns-then-not-is_empty g c =
    c.loop-parts.invariant.same
    ∙ word-first (g.T.Text.bytes c.loop-parts.rest) (g.T.Text.bytes c.in-Some.parts.0) (g.T.Text.bytes c.in-Some.parts.1) c.in-Some.ensures.parts (sym c.if-not-is_empty.ensures)

pub loop-parts-preserved : goal.loop-parts-preserved
loop-parts-preserved g c = record {
  same = c.loop-parts.invariant.same
      ∙ word-skip (g.T.Text.bytes c.loop-parts.rest) (g.T.Text.bytes c.in-Some.parts.0) (g.T.Text.bytes c.in-Some.parts.1) c.in-Some.ensures.parts (sym c.if-not-is_empty.ensures);
}

pub returns-then-is_empty : goal.returns-then-is_empty
returns-then-is_empty g c =
    c.loop-parts.invariant.same ∙ word-none (g.T.Text.bytes c.loop-parts.rest) c.in_default.ensures.parts (sym c.if-is_empty.ensures)

pub returns : goal.returns
returns g c =
    c.loop-parts.invariant.same ∙ word-last (g.T.Text.bytes c.loop-parts.rest) c.in_default.ensures.parts (sym c.if-is_empty.ensures)
    ∙ ap (λ rest. g.T.Text.bytes c.loop-parts.rest ∷ words_of rest) (sym c.empty.ensures)
