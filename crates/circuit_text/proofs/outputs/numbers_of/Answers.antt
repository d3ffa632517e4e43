use Rattle.std.proofs.Common.{◌+◌, ◌++◌, [], length, map, drop, ap, ◌∙◌, arith}
use Rattle.std.proofs.lemmas.List.{length_push}
use Rattle.species.specs.Texts.{index_of}
use Rattle.circuit_text.proofs.OutputNumbers.{number_more, known_more, numbers_done, numbers_within}
use Rattle.circuit_text.proofs.outputs.numbers_of.Goals as goal

pub loop-name-preserved : goal.loop-name-preserved
loop-name-preserved c = record {
  count = omega (arith, ap length c.in_ok-push.ensures.items, length_push c.loop-name.numbers.items c.number_of.result, c.loop-name.invariant.count);
  rest = ap (λ ns. ns ++ map (index_of c.args.names.now) (map (λ x. x.now) (drop (c.loop-name.name-index + 1) c.args.outputs.now))) c.in_ok-push.ensures.items
      ∙ number_more (λ x. x.now) c.args.names.now c.args.outputs.now c.loop-name.name-index _ c.loop-name.numbers.items _ c.number_of.result c.loop-name-test.true c.number_of.ensures.number c.loop-name.invariant.rest;
  known = known_more (λ x. x.now) c.args.names.now c.args.outputs.now c.loop-name.name-index (record { ref_ptr = (0, 0); now = [] }) c.loop-name-test.true c.loop-name.invariant.known;
}

pub returns-clause-within : goal.returns-clause-within
returns-clause-within c =
    numbers_within c.args.names.now (map (λ x. x.now) c.args.outputs.now) c.loop-name.numbers.items c.requires.known
    (numbers_done (λ x. x.now) c.args.names.now c.args.outputs.now c.loop-name.name-index c.loop-name.numbers.items _ c.loop-name-test.false c.loop-name.invariant.rest)
