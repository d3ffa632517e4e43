use Rattle.surf_kinds.proofs.Fractions.{whole_reduced, one_over_reduced}
use Rattle.surf_kinds.proofs.laws.whole_numbers_and_their_parts_are_rates.Goals as goal

pub returns-clause-whole : goal.returns-clause-whole
returns-clause-whole c = whole_reduced

pub returns-clause-part : goal.returns-clause-part
returns-clause-part c = one_over_reduced
