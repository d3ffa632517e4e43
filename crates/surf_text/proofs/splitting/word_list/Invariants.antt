use Rattle.std.proofs.Common.{◌≡◌, ◌++◌, length, map}
use Rattle.surf_text.specs.Cuts.{words_of}
use Rattle.surf_text.proofs.splitting.word_list.Given as goal

abbrev pub invariant-loop-word : goal.invariant-loop-word
invariant-loop-word l = record { so_far : map (λ w. w.now) l.found.items ++ l.rest ≡ words_of l.text }

abbrev pub decreases-loop-word : goal.decreases-loop-word
decreases-loop-word l = length l.rest
