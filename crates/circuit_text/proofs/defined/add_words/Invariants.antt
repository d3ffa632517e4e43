use Rattle.std.proofs.Common.{◌≡◌, length, true}
use Rattle.std.specs.Prelude.{fold}
use Rattle.std.specs.List.{list_all}
use Rattle.surf_text.specs.Cuts.{words_of}
use Rattle.species.specs.Texts.{with_text}
use Rattle.circuit_text.specs.Names.{is_name}
use Rattle.circuit_text.proofs.defined.add_words.Given as goal

abbrev pub invariant-loop-word : goal.invariant-loop-word
invariant-loop-word l = record {
  rest : fold with_text l.all l.words ≡ fold with_text l.fn.all (words_of l.text);
  names : list_all is_name l.words ≡ true;
}

abbrev pub decreases-loop-word : goal.decreases-loop-word
decreases-loop-word l = length l.words
