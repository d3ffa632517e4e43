use Rattle.std.proofs.Common.{◌≡◌, ◌++◌, drop, length, map, true}
use Rattle.std.specs.List.{list_all}
use Rattle.species.specs.Texts.{is_in, index_of}
use Rattle.circuit_text.proofs.outputs.numbers_of.Given as goal

abbrev pub invariant-loop-name : goal.invariant-loop-name
invariant-loop-name l = record {
  count : length l.numbers.items ≡ l.name-index;
  rest : l.numbers.items ++ map (index_of l.names) (map (λ x. x.now) (drop l.name-index l.outputs)) ≡ map (index_of l.names) (map (λ x. x.now) l.outputs);
  known : list_all (is_in l.names) (map (λ x. x.now) (drop l.name-index l.outputs)) ≡ true;
}
