use Rattle.std.proofs.Common.{◌≡◌, length}
use Rattle.std.specs.List.{list_all}
use Rattle.surf_text.specs.Cuts.{words_of}
use Rattle.circuit_text.specs.Names.{is_name}
use Rattle.circuit_text.proofs.words.has_only_names.Given as goal

abbrev pub invariant-loop-word : goal.invariant-loop-word
invariant-loop-word l = record { same : list_all is_name l.words ≡ list_all is_name (words_of l.text) }

abbrev pub decreases-loop-word : goal.decreases-loop-word
decreases-loop-word l = length l.words
