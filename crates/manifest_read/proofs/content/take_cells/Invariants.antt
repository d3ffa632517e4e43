use Rattle.std.proofs.Common.{◌≡◌, length}
use Rattle.surf_text.specs.Cuts.{words_of}
use Rattle.manifest_read.specs.Views.{cells_collected}
use Rattle.manifest_read.proofs.content.take_cells.Given as goal

abbrev pub invariant-loop-word : goal.invariant-loop-word
invariant-loop-word l = cells_collected l.words l.collected ≡ cells_collected (words_of l.text) l.fn.collected

abbrev pub decreases-loop-word : goal.decreases-loop-word
decreases-loop-word l = length l.words
