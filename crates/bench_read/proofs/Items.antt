-- Items as the reader keeps them.
use Rattle.std.proofs.Common.{◌≡◌, ℕ, ◌<◌, ◌==◌, Bool, true, false, List, [], ◌∷◌, ◌++◌, length, map, slice_index_or, slice_set, refl, sym, ap, ◌∙◌, subst, eqb-true, Vec}
use Rattle.std.specs.Global.{Global}
use Rattle.std.specs.List.{All, Contains}
use Rattle.std.proofs.lemmas.Bool.{eqb-false}
use Rattle.std.proofs.lemmas.List.{get_or-map, map-set, get_or-set_same, get_or-set_other}
use Rattle.std.proofs.lemmas.List.Elements.{All-push, Contains-push, Contains-append_left}
use Rattle.bench_read.specs.declared.second.Item.{Item as ItemValue}
use Rattle.bench_read.specs.Order.{InputNet, item_at}
use Rattle.bench_read.specs.Readings.{item_of, lists_of}

pub item-here : (items : List ItemValue) (n : ℕ) (x : ItemValue) → n < length items → x ≡ slice_index_or items n x → item_at (map item_of items) n ≡ item_of x
item-here items n x lt e = get_or-map item_of items n x InputNet lt ∙ ap item_of (sym e)

-- the list at a place
pub list-here : (lists : List (Vec ℕ Global)) (n : ℕ) (x : Vec ℕ Global) → n < length lists → x ≡ slice_index_or lists n x → slice_index_or (lists_of lists) n [] ≡ x.items
list-here lists n x lt e = get_or-map (λ (v : Vec ℕ Global). v.items) lists n x [] lt ∙ ap (λ (v : Vec ℕ Global). v.items) (sym e)

-- an item more goes into one list
pub lists-set : (lists : List (Vec ℕ Global)) (i : ℕ) (w : Vec ℕ Global) → lists_of (slice_set lists i w) ≡ slice_set (lists_of lists) i w.items
lists-set lists i w = map-set (λ (v : Vec ℕ Global). v.items) lists i w

-- one list gains an item: what the others hold they hold still
module _ (lists : List (List ℕ)) (i : ℕ) (x : ℕ) (lt : i < length lists) where
  abbrev gained : List (List ℕ)
  gained = slice_set lists i (slice_index_or lists i [] ++ x ∷ [])

  at-same : slice_index_or gained i [] ≡ slice_index_or lists i [] ++ x ∷ []
  at-same = get_or-set_same lists i (slice_index_or lists i [] ++ x ∷ []) [] lt

  at-other : (y : ℕ) → (y ≡ i → ⊥) → slice_index_or gained y [] ≡ slice_index_or lists y []
  at-other y ne = get_or-set_other lists i y (slice_index_or lists i [] ++ x ∷ []) [] ne

  pub gained-added : Contains (slice_index_or gained i []) x
  gained-added = subst (λ xs. Contains xs x) (sym at-same) (Contains-push (slice_index_or lists i []) x)

  pub gained-kept : (y d : ℕ) → Contains (slice_index_or lists y []) d → Contains (slice_index_or gained y []) d
  gained-kept y d c = by (y == i) refl
    where
      by : (b : Bool) → (y == i) ≡ b → Contains (slice_index_or gained y []) d
      by true e =
          let same : y ≡ i = eqb-true y i e in
          subst (λ z. Contains (slice_index_or gained z []) d) (sym same)
          (subst (λ xs. Contains xs d) (sym at-same) (Contains-append_left (slice_index_or lists i []) (x ∷ []) d (subst (λ z. Contains (slice_index_or lists z []) d) same c)))
      by false e = subst (λ xs. Contains xs d) (sym (at-other y (eqb-false y i e))) c

  pub gained-only : (bound : ℕ) → x < bound → ((y : ℕ) → All (λ d. d < bound) (slice_index_or lists y [])) → (y : ℕ) → All (λ d. d < bound) (slice_index_or gained y [])
  gained-only bound small all y = by (y == i) refl
    where
      by : (b : Bool) → (y == i) ≡ b → All (λ d. d < bound) (slice_index_or gained y [])
      by true e =
          subst (λ z. All (λ d. d < bound) (slice_index_or gained z [])) (sym (eqb-true y i e))
          (subst (All (λ d. d < bound)) (sym at-same) (All-push (λ d. d < bound) (slice_index_or lists i []) x (all i) small))
      by false e = subst (All (λ d. d < bound)) (sym (at-other y (eqb-false y i e))) (all y)
