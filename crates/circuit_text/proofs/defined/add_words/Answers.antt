use Rattle.std.proofs.Common.{refl, ap, sym, ◌∙◌}
use Rattle.std.specs.Prelude.{fold}
use Rattle.std.specs.List.{list_all}
use Rattle.species.specs.Texts.{with_text}
use Rattle.circuit_text.specs.Names.{is_name}
use Rattle.circuit_text.proofs.Runs.{first_name}
use Rattle.circuit_text.proofs.defined.add_words.Goals as goal

pub loop-word-init : goal.loop-word-init
loop-word-init c = record {
  rest = ap (fold with_text c.args.all.now) c.new-words.ensures;
  names = ap (list_all is_name) c.new-words.ensures ∙ c.requires;
}

pub sure_name-requires : goal.sure_name-requires
sure_name-requires c = (first_name c.loop-word.words c.next_word.new.self c.in-Some.word.now c.in-Some.ensures.word c.loop-word.invariant.names).0

pub loop-word-preserved : goal.loop-word-preserved
loop-word-preserved c = record {
  rest = ap (λ a. fold with_text a c.next_word.new.self) (c.in-Ok.ensures.texts ∙ ap (with_text c.loop-word.all) c.sure_name.ensures)
      ∙ sym (ap (fold with_text c.loop-word.all) c.in-Some.ensures.word) ∙ c.loop-word.invariant.rest;
  names = (first_name c.loop-word.words c.next_word.new.self c.in-Some.word.now c.in-Some.ensures.word c.loop-word.invariant.names).1;
}

pub returns : goal.returns
returns c = ap (fold with_text c.loop-word.all) (sym (c.in_default.ensures.none.0 refl)) ∙ c.loop-word.invariant.rest
