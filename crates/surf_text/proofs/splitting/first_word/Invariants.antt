use Rattle.std.proofs.Common.{◌≡◌, length}
use Rattle.surf_text.specs.Cuts.{words_of}
use Rattle.surf_text.proofs.splitting.first_word.Given as goal

abbrev pub invariant-loop-parts : goal.invariant-loop-parts
invariant-loop-parts g l = record { same : words_of (g.T.Text.bytes l.fn.text) ≡ words_of (g.T.Text.bytes l.rest) }

abbrev pub decreases-loop-parts : goal.decreases-loop-parts
decreases-loop-parts g l = length (g.T.Text.bytes l.rest)
