use Rattle.std.proofs.Common.{ap, ◌∙◌, sym, subst, List, ℕ, Ok, Err, nat_cmp}
use Rattle.std.specs.List.Sorted.{IsBinarySearchResult}
use Rattle.plan.specs.Index.{found_in_row}
use Rattle.plan.proofs.Listed.{found_there, found_nothing, is_place}
use Rattle.plan.proofs.index.Row.find.Goals as goal

pub returns-in-Ok : goal.returns-in-Ok
returns-in-Ok c =
    let r = c.args.self.now in
    let s = c.in-Some.second.0 in
    c.as_slice-in-Ok.ensures.value ∙ ap (λ v. v.items) c.index.ensures
    ∙ sym (found_there r c.requires c.in-Ok.k s c.index.result.now (subst (λ (ks : List ℕ). IsBinarySearchResult (λ y. nat_cmp y s) ks (Ok c.in-Ok.k)) c.deref.ensures.value c.in-Ok.ensures.position))
    ∙ ap (found_in_row r) (sym c.in-Some.is)

pub returns-in-Err : goal.returns-in-Err
returns-in-Err c =
    let r = c.args.self.now in
    let s = c.in-Some.second.0 in
    let k = c.in-Err.field-0 in
    sym (found_nothing r c.requires k s (is_place r c.requires k s (subst (λ (ks : List ℕ). IsBinarySearchResult (λ y. nat_cmp y s) ks (Err k)) c.deref.ensures.value c.in-Err.ensures.position)))
    ∙ ap (found_in_row r) (sym c.in-Some.is)
