use Rattle.std.proofs.Common.{refl, ap, sym, ◌∙◌, map}
use Rattle.std.specs.Prelude.{fold}
use Rattle.std.specs.List.{flat_map}
use Rattle.species.specs.Texts.{with_text}
use Rattle.circuit_text.specs.Lines.{sort_of}
use Rattle.circuit_text.specs.Circuits.{defines}
use Rattle.circuit_text.proofs.Known.{fold_append}
use Rattle.circuit_text.proofs.defined.defined_names.Goals as goal

pub loop-line-preserved : goal.loop-line-preserved
loop-line-preserved c = record {
  rest = ap (λ a. fold with_text a (flat_map defines (map sort_of c.next_line.new.self.lines))) c.in-Ok.ensures
      ∙ sym (fold_append c.loop-line.all (defines (sort_of c.in-Some.line.bytes.now)) (flat_map defines (map sort_of c.next_line.new.self.lines)))
      ∙ sym (ap (λ ls. fold with_text c.loop-line.all (flat_map defines (map sort_of ls))) c.in-Some.ensures.line) ∙ c.loop-line.invariant.rest;
}

pub returns : goal.returns
returns c = ap (λ ls. fold with_text c.loop-line.all (flat_map defines (map sort_of ls))) (sym (c.in_default.ensures.none.0 refl)) ∙ c.loop-line.invariant.rest
