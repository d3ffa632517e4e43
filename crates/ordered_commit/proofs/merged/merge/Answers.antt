-- The events are those of the lists, since their clones are the same, and their keys rise, since they differ.
use Rattle.std.proofs.Common.{sym, ◌∙◌, subst, IsPermutation, ◌≤◌, ◌+◌, get_or, ap, arith, rules}
use Rattle.std.specs.List.{each_same, sum_by}
use Rattle.std.specs.Vec.{vec_items}
use Rattle.std.proofs.lemmas.List.Folds.{flat_map-map}
use Rattle.std.proofs.lemmas.List.Sorted.{answers_always, sum_by-IsPermutation}
use Rattle.surf_kinds.specs.Keys.{key_of}
use Rattle.ordered_commit.proofs.Rising.{is_lt-cmp, rising, once_in_all, one_at}
use Rattle.ordered_commit.proofs.merged.merge.Goals as goal

pub returns-clause-all : goal.returns-clause-all
returns-clause-all c = subst (λ xs. IsPermutation xs c.sort_by_key.new.self.items) (each_same _ _ c.in_ok-events.ensures.ok ∙ sym (flat_map-map (λ list. list) vec_items c.args.lists.now)) c.sort_by_key.ensures.permutation

pub returns-clause-order : goal.returns-clause-order
returns-clause-order c =
    let sorted = c.in_ok-sort_by_key.ensures.sorted key_of (answers_always _ _ _ (λ f a r g h. search rules)) in
    let merged = c.sort_by_key.new.self.items in
    let same = each_same _ _ c.in_ok-events.ensures.ok ∙ sym (flat_map-map (λ list. list) vec_items c.args.lists.now) in
    rising merged (λ k d h. sym (is_lt-cmp (key_of (get_or merged (k + 1) d)) (key_of (get_or merged k d))) ∙ sorted k d (omega arith) h)
    (λ k. subst (λ n. n ≤ 1) (sym (sum_by-IsPermutation (one_at k) _ _ c.sort_by_key.ensures.permutation ∙ ap (sum_by (one_at k)) same)) (once_in_all _ c.requires k))
