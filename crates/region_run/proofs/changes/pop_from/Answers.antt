use Rattle.std.proofs.Common.{◌≡◌, ◌-◌, Some, List, length, sym, subst, ◌∙◌}
use Rattle.std.specs.Prelude.{slice_get}
use Rattle.region_run.specs.declared.changes.Change.{Change}
use Rattle.region_run.proofs.Trail.{last_below}
use Rattle.region_run.proofs.changes.pop_from.Goals as goal

pub returns-then-is_before-clause-below : goal.returns-then-is_before-clause-below
returns-then-is_before-clause-below c order =
    let last = c.in_ok-last.field-0.now in
    last_below c.args.key c.args.changes.now.items last
    (subst (λ (l : List Change). slice_get l (length l - 1) ≡ Some last) c.deref.ensures.value (sym c.in_ok-last.ensures.value))
    (sym c.is_before.ensures ∙ c.if-is_before.true) order
