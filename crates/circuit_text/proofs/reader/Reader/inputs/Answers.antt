use Rattle.std.proofs.Common.{refl, ap, ◌∙◌}
use Rattle.std.specs.List.{list_all}
use Rattle.circuit_text.specs.Names.{is_name}
use Rattle.circuit_text.specs.Steps.{state_of, taken, input}
use Rattle.circuit_text.proofs.Runs.{more, fails, done, first_name}
use Rattle.circuit_text.proofs.reader.Reader.inputs.Goals as goal

pub loop-word-init : goal.loop-word-init
loop-word-init c = record {
  rest = ap (λ ws. taken input ws (state_of c.args.self.now)) c.new-words.ensures;
  same = c.requires.same;
  names = ap (list_all is_name) c.new-words.ensures ∙ c.requires.names;
}

pub sure_name-requires : goal.sure_name-requires
sure_name-requires c = (first_name c.loop-word.words c.next_word.new.self c.in-Some.word.now c.in-Some.ensures.word c.loop-word.invariant.names).0

pub loop-word-preserved : goal.loop-word-preserved
loop-word-preserved c = record {
  rest = more input c.loop-word.words c.next_word.new.self c.in-Some.word.now (state_of c.loop-word.self) (state_of c.input.new.self) _ c.in-Some.ensures.word (rw c.sure_name.ensures at c.in-Ok.ensures.outcome) c.loop-word.invariant.rest;
  same = c.in-Ok.ensures.same;
  names = (first_name c.loop-word.words c.next_word.new.self c.in-Some.word.now c.in-Some.ensures.word c.loop-word.invariant.names).1;
}

pub returns-in-Err-clause-outcome : goal.returns-in-Err-clause-outcome
returns-in-Err-clause-outcome c =
    fails input c.in-Err.refusal c.loop-word.words c.next_word.new.self c.in-Some.word.now (state_of c.loop-word.self) _ c.in-Some.ensures.word (rw c.sure_name.ensures at c.in-Err.ensures.outcome) c.loop-word.invariant.rest

pub returns-clause-outcome : goal.returns-clause-outcome
returns-clause-outcome c = done input c.loop-word.words (state_of c.loop-word.self) _ (c.in_default.ensures.none.0 refl) c.loop-word.invariant.rest
