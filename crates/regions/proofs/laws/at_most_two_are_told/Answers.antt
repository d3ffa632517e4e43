use Rattle.regions.proofs.Tellings.{Decides-is_told, two_told, unseen, not_itself, told_below}
use Rattle.regions.proofs.laws.at_most_two_are_told.Goals as goal

pub returns-clause-told : goal.returns-clause-told
returns-clause-told c b region place = Decides-is_told b region place

pub returns-clause-two : goal.returns-clause-two
returns-clause-two c b place i j k p q r = two_told b place i j k p q r

pub returns-clause-unseen : goal.returns-clause-unseen
returns-clause-unseen c b region place site other silent h = unseen b region place site other silent h

pub returns-clause-itself : goal.returns-clause-itself
returns-clause-itself c b place = not_itself b place

pub returns-clause-below : goal.returns-clause-below
returns-clause-below c b region place cut h = told_below b region place cut h
