use Rattle.std.proofs.Common.{◌≡◌, sym, ap, subst}
use Rattle.surf_kinds.specs.Steps.{number_of_place}
use Rattle.lattice.specs.Places.{number_of}
use Rattle.lattice.specs.Rising.{IsPairOf}
use Rattle.lattice.proofs.place_list.PlaceList.add.Goals as goal

pub insert-requires-clause-absent : goal.insert-requires-clause-absent
insert-requires-clause-absent c =
    c.requires.absent c.at.result.0
    (subst (λ o. IsPairOf o c.args.step c.at.result.0) (sym c.in-Some.is) (ap number_of c.at.ensures))

pub returns-in-Some-clause-listed : goal.returns-in-Some-clause-listed
returns-in-Some-clause-listed c =
    let number : c.at.result.0 ≡ number_of_place c.in-Some.site.0 c.args.step = ap number_of c.at.ensures in
    λ q. rw c.in-Some.is (rw (← number) (c.insert.ensures.listed q))
