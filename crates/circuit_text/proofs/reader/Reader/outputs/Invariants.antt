use Rattle.std.proofs.Common.{◌≡◌, length, true}
use Rattle.std.specs.List.{list_all}
use Rattle.surf_text.specs.Cuts.{words_of}
use Rattle.species.specs.Texts.{is_in}
use Rattle.circuit_text.specs.Names.{is_name}
use Rattle.circuit_text.specs.Steps.{state_of, taken, output}
use Rattle.circuit_text.proofs.reader.Reader.outputs.Given as goal

abbrev pub invariant-loop-word : goal.invariant-loop-word
invariant-loop-word l = record {
  rest : taken (output (is_in l.all)) l.words (state_of l.self) ≡ taken (output (is_in l.all)) (words_of l.text) (state_of l.fn.self);
  same : length l.self.names ≡ length l.self.nets;
  names : list_all is_name l.words ≡ true;
}

abbrev pub decreases-loop-word : goal.decreases-loop-word
decreases-loop-word l = length l.words
