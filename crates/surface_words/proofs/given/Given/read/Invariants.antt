use Rattle.std.proofs.Common.{◌≡◌, ◌+◌, length, map, string_bytes}
use Rattle.surface_words.specs.Given.{nothing}
use Rattle.surface_words.proofs.Runs.{run}
use Rattle.surface_words.proofs.given.Given.read.Given as goal

abbrev pub invariant-loop-name : goal.invariant-loop-name
invariant-loop-name l = record {
  same : run l.command l.given l.index (map string_bytes l.rest) ≡ run l.command nothing 1 (map string_bytes l.words);
  place : l.index + length l.rest ≡ 1 + length l.words;
}

abbrev pub decreases-loop-name : goal.decreases-loop-name
decreases-loop-name l = length l.rest
