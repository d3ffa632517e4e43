use Rattle.std.proofs.Common.{◌≡◌, ◌∙◌, subst, ap, Vec, List, map}
use Rattle.std.specs.Global.{Global}
use Rattle.surf_kinds.specs.Keys.{from}
use Rattle.surf_kinds.specs.declared.event.Event.{Event}
use Rattle.border.specs.Stacked.{AreStacks, stacks_of, StacksView}
use Rattle.border.proofs.StackFacts.{stacks-forgotten, stacks_left, written_back}
use Rattle.border.proofs.stacks.Stacks.forget_below.Goals as goal

pub invariant_of-self : goal.invariant_of-self
invariant_of-self c =
    let vs = c.self.inside.stacks.items in
    let borrowed = c.as_mut_slice.result.now in
    let ws = c.forget_each.new.stacks in
    let spare = c.self.inside.spare in
    written_back c.self.inside.stacks.len (AreStacks spare) vs borrowed ws c.self.inside.stacks.ok.0 c.as_mut_slice.ensures.value c.forget_each.auto.stacks
    (stacks_left c.args.key spare borrowed ws c.forget_each.auto.stacks c.forget_each.ensures (rw c.as_mut_slice.ensures.value c.self.invariant))

pub returns : goal.returns
returns c =
    let vs = c.self.inside.stacks.items in
    let borrowed = c.as_mut_slice.result.now in
    let ws = c.forget_each.new.stacks in
    let spare = c.self.inside.spare in
    let IsForgotten : StacksView → List (Vec Event Global) → Type 0 = λ s us. ◌≡◌ {A = StacksView} (record { stacks = stacks_of us; spare = spare }) (record { stacks = map (from c.args.key) s.stacks; spare = s.spare }) in
    let each : stacks_of ws ≡ map (from c.args.key) (stacks_of vs) =
    stacks-forgotten c.args.key borrowed ws c.forget_each.auto.stacks c.forget_each.ensures ∙ ap (λ (us : List (Vec Event Global)). map (from c.args.key) (stacks_of us)) c.as_mut_slice.ensures.value in
    written_back c.self.inside.stacks.len (IsForgotten c.args.self.now) vs borrowed ws c.self.inside.stacks.ok.0 c.as_mut_slice.ensures.value c.forget_each.auto.stacks
    (subst (λ s. IsForgotten s ws) c.self.view_is (ap {B = StacksView} (λ (ys : List (List Event)). record { stacks = ys; spare = spare }) each))
