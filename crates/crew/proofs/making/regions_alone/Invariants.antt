use Rattle.crew.specs.Rings.{AreMade}
use Rattle.crew.proofs.making.regions_alone.Given as goal

abbrev pub invariant-loop-i : goal.invariant-loop-i
invariant-loop-i l = AreMade l.plan l.cut l.start l.i l.regions.items
