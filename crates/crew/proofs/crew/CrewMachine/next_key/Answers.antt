use Rattle.std.proofs.Common.{◌≡◌, ◌<◌, ◌∙◌, sym, ap, subst, arith, Some}
use Rattle.std.specs.Prelude.{slice_get}
use Rattle.std.proofs.lemmas.Option.{slice_get-get_or}
use Rattle.region_run.specs.declared.region.Region.{Region}
use Rattle.crew.specs.Crews.{CrewView}
use Rattle.crew.proofs.Steps.{next_key_is}
use Rattle.crew.proofs.crew.CrewMachine.next_key.Goals as goal

pub next_key-requires : goal.next_key-requires
next_key-requires c =
    let inside = subst (λ (v : CrewView). c.args.region < v.bands.count) (sym c.self.view_is) c.requires.inside in
    let at : slice_get c.self.inside.regions.items c.args.region ≡ Some c.index.result.now =
    slice_get-get_or c.self.inside.regions.items c.args.region c.index.result.now (omega (arith, inside, c.self.invariant.crew.count)) ∙ ap (λ (r : Region). Some r) (sym c.index.ensures) in
    record { region = (c.self.inside.plan, c.self.inside.cut, _, (c.self.invariant.crew.region c.args.region c.index.result.now at).0) }

pub returns : goal.returns
returns c =
    let inside = subst (λ (v : CrewView). c.args.region < v.bands.count) (sym c.self.view_is) c.requires.inside in
    let at : slice_get c.self.inside.regions.items c.args.region ≡ Some c.index.result.now =
    slice_get-get_or c.self.inside.regions.items c.args.region c.index.result.now (omega (arith, inside, c.self.invariant.crew.count)) ∙ ap (λ (r : Region). Some r) (sym c.index.ensures) in
    rw (← c.self.view_is)
    (next_key_is _ c.self.invariant.past c.self.invariant.base c.self.invariant.crew c.args.region c.index.result.now c.next_key.result inside at
    (c.next_key.ensures c.self.inside.plan c.self.inside.cut _ (c.self.invariant.crew.region c.args.region c.index.result.now at).0))
