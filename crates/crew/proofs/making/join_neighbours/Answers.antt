use Rattle.crew.proofs.NewRings.{may_first, may_second, stay_both, one_more_joined}
use Rattle.crew.proofs.making.join_neighbours.Goals as goal

pub join_above-requires-clause-may : goal.join_above-requires-clause-may
join_above-requires-clause-may c =
    may_first c.args.cut.now c.args.slots c.args.i c.neighbours-neighbours.result.first c.neighbours-neighbours.result.second c.args.regions.now c.neighbours-neighbours.ensures
    (λ o h. c.neighbours_are_told.ensures.below c.args.cut.now c.args.i o c.count.ensures.cut c.requires.inside h) c.requires.joined

pub join_above-requires-2-clause-may : goal.join_above-requires-2-clause-may
join_above-requires-2-clause-may c =
    may_second c.args.cut.now c.args.slots c.args.i c.neighbours-neighbours.result.first c.neighbours-neighbours.result.second c.args.regions.now c.neighbours-neighbours.ensures
    (λ o h. c.neighbours_are_told.ensures.below c.args.cut.now c.args.i o c.count.ensures.cut c.requires.inside h) c.requires.joined c.join_above.new.regions c.in_ok-join_above.ensures

pub returns-clause-joined : goal.returns-clause-joined
returns-clause-joined c =
    one_more_joined c.args.cut.now c.args.slots c.args.i c.neighbours-neighbours.result.first c.neighbours-neighbours.result.second c.args.regions.now c.neighbours-neighbours.ensures
    (λ o h. c.neighbours_are_told.ensures.below c.args.cut.now c.args.i o c.count.ensures.cut c.requires.inside h) c.requires.joined c.join_above.new.regions c.in_ok-join_above.ensures c.join_above-2.new.regions c.in_ok-join_above-2.ensures

pub returns-clause-first : goal.returns-clause-first
returns-clause-first c =
    stay_both c.args.cut.now c.args.slots c.args.i c.neighbours-neighbours.result.first c.neighbours-neighbours.result.second c.args.regions.now c.neighbours-neighbours.ensures
    (λ o h. c.neighbours_are_told.ensures.below c.args.cut.now c.args.i o c.count.ensures.cut c.requires.inside h) c.requires.joined c.join_above.new.regions c.in_ok-join_above.ensures c.join_above-2.new.regions c.in_ok-join_above-2.ensures
