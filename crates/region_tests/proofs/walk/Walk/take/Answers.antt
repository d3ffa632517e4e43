use Rattle.region_tests.proofs.walk.Walk.take.Goals as goal

pub invariant_of-self : goal.invariant_of-self
invariant_of-self c = let w = c.self.invariant in (w.0, c.prepare.ensures.region _ _ 5 w.0 w.1)

pub absorb-requires-clause-region : goal.absorb-requires-clause-region
absorb-requires-clause-region c = let w = c.self.invariant in (5, w.0, c.prepare.ensures.region _ _ 5 w.0 w.1)

pub invariant_of-self-2 : goal.invariant_of-self-2
invariant_of-self-2 c = let w = c.self.invariant in (w.0, (c.absorb.ensures.step 5 w.0 (c.prepare.ensures.region _ _ 5 w.0 w.1)).region)
