use Rattle.std.proofs.Common.{◌≡◌, ◌-◌, Some, List, length, sym, subst, ◌∙◌}
use Rattle.std.specs.Prelude.{slice_get}
use Rattle.surf_kinds.specs.Keys.{◌is_below◌}
use Rattle.timeline.specs.declared.entry.Entry.{Entry}
use Rattle.timeline.proofs.Rising.{ends_at}
use Rattle.timeline.proofs.cuts.pop_from.Goals as goal

pub returns-then-is_before-clause-below : goal.returns-then-is_before-clause-below
returns-then-is_before-clause-below c =
    let last = c.in_ok-last.field-0.now in
    ends_at c.args.key c.args.entries.now.items last
    (subst (λ (l : List Entry). slice_get l (length l - 1) ≡ Some last) c.deref.ensures.value (sym c.in_ok-last.ensures.value))
    (subst (λ k. k is_below c.args.key) c.key.ensures (sym c.is_before.ensures ∙ c.if-is_before.true))
