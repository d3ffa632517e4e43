use Rattle.std.proofs.Common.{◌≡◌, ap, ◌∙◌, rules, Vec, List}
use Rattle.std.specs.Global.{Global}
use Rattle.surf_kinds.specs.declared.event.Event.{Event}
use Rattle.border.specs.Stacked.{stacks_of}
use Rattle.border.proofs.StackFacts.{stacks-grown, written_back, reserved, unreserved}
use Rattle.border.proofs.stacks.Stacks.reserve.Goals as goal

pub returns-clause-ok : goal.returns-clause-ok
returns-clause-ok c =
    let vs = c.self.inside.stacks.items in
    reserved c.args.self.now _ _ c.self.inside.spare c.args.more c.self.view_is
    (written_back c.self.inside.stacks.len (λ (ws : List (Vec Event Global)). stacks_of ws ≡ stacks_of vs) vs c.as_mut_slice.result.now c.make_room.new.stacks c.self.inside.stacks.ok.0 c.as_mut_slice.ensures.value c.make_room.auto.stacks
    (stacks-grown c.as_mut_slice.result.now c.make_room.new.stacks c.make_room.auto.stacks c.make_room.ensures.grown ∙ ap stacks_of c.as_mut_slice.ensures.value))
    c.if-more-self.false

pub returns-in_err-make_room-clause-err : goal.returns-in_err-make_room-clause-err
returns-in_err-make_room-clause-err c =
    let vs = c.self.inside.stacks.items in
    let same = written_back c.self.inside.stacks.len (λ (ws : List (Vec Event Global)). stacks_of ws ≡ stacks_of vs) vs c.as_mut_slice.result.now c.make_room.new.stacks c.self.inside.stacks.ok.0 c.as_mut_slice.ensures.value c.make_room.auto.stacks
    (stacks-grown c.as_mut_slice.result.now c.make_room.new.stacks c.make_room.auto.stacks c.make_room.ensures.grown ∙ ap stacks_of c.as_mut_slice.ensures.value) in
    let whole = unreserved c.args.self.now _ _ c.self.inside.spare c.self.view_is same in
    search (rules, whole)
