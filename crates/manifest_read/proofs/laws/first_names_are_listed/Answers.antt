use Rattle.manifest_read.proofs.LawLemmas.{listed-seen, few-seen, name_at_place, listed-left, listed-right, listed-both}
use Rattle.manifest_read.proofs.laws.first_names_are_listed.Goals as goal

pub returns-clause-seen : goal.returns-clause-seen
returns-clause-seen c = listed-seen

pub returns-clause-few : goal.returns-clause-few
returns-clause-few c = few-seen

pub returns-clause-place : goal.returns-clause-place
returns-clause-place c = name_at_place

pub returns-clause-left : goal.returns-clause-left
returns-clause-left c = listed-left

pub returns-clause-right : goal.returns-clause-right
returns-clause-right c = listed-right

pub returns-clause-both : goal.returns-clause-both
returns-clause-both c = listed-both
