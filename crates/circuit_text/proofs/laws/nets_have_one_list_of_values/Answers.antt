use Rattle.circuit_text.proofs.NetValues.{values_are, only_values}
use Rattle.circuit_text.proofs.laws.nets_have_one_list_of_values.Goals as goal

pub returns-clause-values : goal.returns-clause-values
returns-clause-values c = values_are

pub returns-clause-only : goal.returns-clause-only
returns-clause-only c = only_values
