use Rattle.std.proofs.Common.{◌≡◌, ◌<◌, ◌∷◌, [], ◌++◌, length, slice_index_or, slice_set, sym, ap, ◌∙◌, subst, arith}
use Rattle.std.proofs.lemmas.List.{length-map}
use Rattle.std.specs.List.{All, Contains}
use Rattle.bench_read.specs.Readings.{lists_of}
use Rattle.bench_read.proofs.Items.{list-here, lists-set, gained-added, gained-kept, gained-only}
use Rattle.bench_read.proofs.users.add_user.Goals as goal

pub returns-clause-added : goal.returns-clause-added
returns-clause-added c =
    let old = c.args.users.now.items in
    let lists = lists_of old in
    let i = c.args.operand in
    let short : i < length old = omega (arith, c.requires.operand, c.args.users.now.ok.0) in
    let lt : i < length lists = omega (arith, short, length-map old (λ v. v.items)) in
    let was : slice_index_or lists i [] ≡ c.index_mut.result.now.items = list-here old i c.index_mut.result.now short c.index_mut.ensures.value in
    let new : lists_of (slice_set old i c.push.new.self) ≡ slice_set lists i (slice_index_or lists i [] ++ c.args.item ∷ [])
    = lists-set old i c.push.new.self ∙ ap (slice_set lists i) (c.in_ok-push.ensures.items ∙ ap (λ xs. xs ++ c.args.item ∷ []) (sym was)) in
    subst (λ ls. Contains (slice_index_or ls i []) c.args.item) (sym new) (gained-added lists i c.args.item lt)

pub returns-clause-kept : goal.returns-clause-kept
returns-clause-kept c =
    let old = c.args.users.now.items in
    let lists = lists_of old in
    let i = c.args.operand in
    let short : i < length old = omega (arith, c.requires.operand, c.args.users.now.ok.0) in
    let lt : i < length lists = omega (arith, short, length-map old (λ v. v.items)) in
    let was : slice_index_or lists i [] ≡ c.index_mut.result.now.items = list-here old i c.index_mut.result.now short c.index_mut.ensures.value in
    let new : lists_of (slice_set old i c.push.new.self) ≡ slice_set lists i (slice_index_or lists i [] ++ c.args.item ∷ [])
    = lists-set old i c.push.new.self ∙ ap (slice_set lists i) (c.in_ok-push.ensures.items ∙ ap (λ xs. xs ++ c.args.item ∷ []) (sym was)) in
    λ y d m. subst (λ ls. Contains (slice_index_or ls y []) d) (sym new) (gained-kept lists i c.args.item lt y d m)

pub returns-clause-only : goal.returns-clause-only
returns-clause-only c =
    let old = c.args.users.now.items in
    let lists = lists_of old in
    let i = c.args.operand in
    let short : i < length old = omega (arith, c.requires.operand, c.args.users.now.ok.0) in
    let lt : i < length lists = omega (arith, short, length-map old (λ v. v.items)) in
    let was : slice_index_or lists i [] ≡ c.index_mut.result.now.items = list-here old i c.index_mut.result.now short c.index_mut.ensures.value in
    let new : lists_of (slice_set old i c.push.new.self) ≡ slice_set lists i (slice_index_or lists i [] ++ c.args.item ∷ [])
    = lists-set old i c.push.new.self ∙ ap (slice_set lists i) (c.in_ok-push.ensures.items ∙ ap (λ xs. xs ++ c.args.item ∷ []) (sym was)) in
    λ bound small all y. subst (λ ls. All (λ d. d < bound) (slice_index_or ls y [])) (sym new) (gained-only lists i c.args.item lt bound small all y)
