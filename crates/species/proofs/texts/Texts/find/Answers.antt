use Rattle.std.proofs.Common.{subst, sym, length, ◌<◌}
use Rattle.std.specs.String.{string_bytes}
use Rattle.std.specs.Str.{bytes_eq}
use Rattle.species.proofs.TextLists.{position-map, found, missing, index-within}
use Rattle.species.proofs.texts.Texts.find.Goals as goal

pub returns-in-Some-clause-number : goal.returns-in-Some-clause-number
returns-in-Some-clause-number c =
    rw (← c.self.view_is, position-map string_bytes (bytes_eq c.args.text.now) c.self.inside.texts.keys) c.in-Some.ensures.index

pub returns-in-Some-clause-index : goal.returns-in-Some-clause-index
returns-in-Some-clause-index c = (found c.args.self.now c.args.text.now c.in-Some.index (returns-in-Some-clause-number c)).0

pub returns-in-Some-clause-some : goal.returns-in-Some-clause-some
returns-in-Some-clause-some c = (found c.args.self.now c.args.text.now c.in-Some.index (returns-in-Some-clause-number c)).1

pub returns-in-Some-clause-within : goal.returns-in-Some-clause-within
returns-in-Some-clause-within c =
    subst (λ i. i < length c.args.self.now) (sym (returns-in-Some-clause-index c))
    (index-within c.args.self.now c.args.text.now (found c.args.self.now c.args.text.now c.in-Some.index (returns-in-Some-clause-number c)).1)

pub returns-in-None-clause-number : goal.returns-in-None-clause-number
returns-in-None-clause-number c =
    rw (← c.self.view_is, position-map string_bytes (bytes_eq c.args.text.now) c.self.inside.texts.keys) c.in-None.ensures.index

pub returns-in-None-clause-none : goal.returns-in-None-clause-none
returns-in-None-clause-none c = missing c.args.self.now c.args.text.now (returns-in-None-clause-number c)
