use Rattle.species.proofs.TextLists.{texts_differ}
use Rattle.species.proofs.texts.Texts.count.Goals as goal

pub returns-clause-distinct : goal.returns-clause-distinct
returns-clause-distinct c = rw (← c.self.view_is) (texts_differ c.self.inside.texts.keys c.len.ensures.unique)
