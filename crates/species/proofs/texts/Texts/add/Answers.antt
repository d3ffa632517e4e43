use Rattle.species.proofs.TextLists.{inserted}
use Rattle.species.proofs.texts.Texts.add.Goals as goal

pub returns-clause-texts : goal.returns-clause-texts
returns-clause-texts c =
    rw (c.in_ok-insert.ensures.keys, ← c.self.view_is) (inserted c.self.inside.texts.keys c.in_ok-owned.owned c.args.text.now c.in_ok-owned.ensures.ok)
