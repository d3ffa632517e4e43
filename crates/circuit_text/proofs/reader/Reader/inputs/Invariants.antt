use Rattle.std.proofs.Common.{◌≡◌, length, true}
use Rattle.std.specs.List.{list_all}
use Rattle.surf_text.specs.Cuts.{words_of}
use Rattle.circuit_text.specs.Names.{is_name}
use Rattle.circuit_text.specs.Steps.{state_of, taken, input}
use Rattle.circuit_text.proofs.reader.Reader.inputs.Given as goal

abbrev pub invariant-loop-word : goal.invariant-loop-word
invariant-loop-word l = record {
  rest : taken input l.words (state_of l.self) ≡ taken input (words_of l.text) (state_of l.fn.self);
  same : length l.self.names ≡ length l.self.nets;
  names : list_all is_name l.words ≡ true;
}

abbrev pub decreases-loop-word : goal.decreases-loop-word
decreases-loop-word l = length l.words
