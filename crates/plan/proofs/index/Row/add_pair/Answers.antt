use Rattle.std.proofs.Common.{◌∷◌, ◌++◌, [], ap, ◌∙◌, refl, subst, List, ℕ, Ok, Err, nat_cmp}
use Rattle.std.specs.List.Sorted.{IsBinarySearchResult}
use Rattle.std.specs.Vec.{with_item}
use Rattle.plan.proofs.Listed.{is_place, put_there, row_added}
use Rattle.plan.proofs.index.Row.add_pair.Goals as goal

pub add_first-requires-clause-place : goal.add_first-requires-clause-place
add_first-requires-clause-place c =
    is_place c.args.self.now c.requires c.in-Err.k c.args.second
    (subst (λ (ks : List ℕ). IsBinarySearchResult (λ y. nat_cmp y c.args.second) ks (Err c.in-Err.k)) c.deref.ensures.value c.in-Err.ensures.position)

pub returns-in_ok-push-in-Ok-clause-added : goal.returns-in_ok-push-in-Ok-clause-added
returns-in_ok-push-in-Ok-clause-added c =
    let r = c.args.self.now in
    let list = c.index_mut-list.result.now in
    row_added r (record { alone = r.alone; seconds = r.seconds; pairs = with_item r.pairs c.in-Ok.k c.push.new.self }) c.args.second c.args.channel refl
    (put_there r c.requires c.in-Ok.k c.args.second c.push.new.self list c.args.channel
    (subst (λ (ks : List ℕ). IsBinarySearchResult (λ y. nat_cmp y c.args.second) ks (Ok c.in-Ok.k)) c.deref.ensures.value c.in-Ok.ensures.position)
    (c.in_ok-push-in-Ok.ensures.items ∙ ap (λ v. v.items ++ c.args.channel ∷ []) c.index_mut-list.ensures.value))
