use Rattle.std.proofs.Common.{◌≡◌, ◌+◌, ◌≤◌, length}
use Rattle.surf_text.specs.Cuts.{words_of}
use Rattle.manifest_read.proofs.names.count_words.Given as goal

abbrev pub invariant-loop-count : goal.invariant-loop-count
invariant-loop-count l = record {
  counted : l.count + length l.words ≡ length (words_of l.text);
  fits : length (words_of l.text) ≤ length l.text + 1;
}

abbrev pub decreases-loop-count : goal.decreases-loop-count
decreases-loop-count l = length l.words
