use Rattle.std.proofs.Common.{◌≡◌, ◌≢◌, ◌<◌, ℕ, [], inl, inr, sym, subst}
use Rattle.std.proofs.lemmas.Bool.{cases_Bool}
use Rattle.regions.specs.Neighbours.{IsNeighbour}
use Rattle.regions.specs.Seen.{is_told}
use Rattle.crew.specs.Crews.{CrewView, world_in, core_in}
use Rattle.crew.proofs.crew.CrewMachine.neighbours.Goals as goal

pub returns-clause-inside : goal.returns-clause-inside
returns-clause-inside c i h =
    let inside = subst (λ (v : CrewView). c.args.region < v.bands.count) (sym c.self.view_is) c.requires in
    let near : IsNeighbour c.self.inside.cut c.args.region i = (c.neighbours.ensures.exactly i).0 h in
    subst (λ (v : CrewView). (i < (world_in v).regions) × (c.args.region ≢ i)) c.self.view_is (c.neighbours_are_told.ensures.below c.self.inside.cut c.args.region i c.self.invariant.crew.cut inside near, near.0)

pub returns-clause-others : goal.returns-clause-others
returns-clause-others c i h first second =
    let inside = subst (λ (v : CrewView). c.args.region < v.bands.count) (sym c.self.view_is) c.requires in
    let there = subst (λ (v : CrewView). i < v.bands.count) (sym c.self.view_is) h in
    subst (λ (v : CrewView). (core_in v).channel c.args.region i ≡ []) c.self.view_is
    (c.self.invariant.untold c.args.region i inside there
    (λ p own. elim (cases_Bool (is_told c.self.inside.cut i p)) [
      | inl told ↦
          let near : IsNeighbour c.self.inside.cut c.args.region i = subst (λ m. IsNeighbour c.self.inside.cut m i) own (c.neighbours_are_told.ensures.told c.self.inside.cut i p c.self.invariant.crew.cut told) in
          absurd (elim ((c.neighbours.ensures.exactly i).1 near) [ inl e ↦ first e | inr e ↦ second e ])
      | inr untold ↦ untold
    ]))
