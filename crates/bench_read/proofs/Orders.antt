-- Items that are placed one after the other.
use Rattle.std.proofs.Common.{◌≡◌, ℕ, zero, suc, ◌+◌, ◌<◌, ◌≤◌, ◌⊎◌, Bool, true, false, cond, not, ◌&&◌, ◌||◌, ◌==◌, List, [], ◌∷◌, ◌++◌, length, map, filter, get_or, refl, sym, ap, ◌∙◌, inl, inr, arith, nat_lt, subst, eqb-true, eq-eqb, ne_eqb}
use Rattle.std.specs.List.{list_any, list_all, position_or_len, range_with_len, Contains, All}
use Rattle.std.proofs.lemmas.List.{length-append, get_or_append_left}
use Rattle.std.proofs.lemmas.List.Folds.{list_any-append, position_or_len_push}
use Rattle.std.proofs.lemmas.List.Sums.{position_or_len_is, prefix_len-le-length}
use Rattle.std.proofs.lemmas.List.FromFn.{get_or-range_with_len, length-range_with_len}
use Rattle.std.proofs.lemmas.Bool.{ltb-true, and_parts, and_from, not-true, not_from_false, false≢true}
use Rattle.std.proofs.lemmas.Bool.Decides.{nat_tests}
use Rattle.species.proofs.LawLemmas.{list_any-position}
use Rattle.bench_read.specs.Order.{Item, is_input, operands_at, item_at, is_placed, is_ready, next_of, place_of, inputs_of, first_unplaced}

pub placed-place : (order : List ℕ) (d : ℕ) → is_placed order d ≡ nat_lt (place_of order d) (length order)
placed-place order d = list_any-position (λ e. e == d) order

pub place-within : (order : List ℕ) (d : ℕ) → is_placed order d ≡ true → place_of order d < length order
place-within order d h = ltb-true (place_of order d) (length order) (sym (placed-place order d) ∙ h)

or_false : (a b : Bool) → (a || (b || false)) ≡ (a || b)
or_false a true = refl
or_false a false = refl

-- one item more
pub placed-more : (order : List ℕ) (x d : ℕ) → is_placed (order ++ x ∷ []) d ≡ (is_placed order d || x == d)
placed-more order x d = list_any-append (λ e. e == d) order (x ∷ []) ∙ or_false (is_placed order d) (x == d)

pub placed-last : (order : List ℕ) (x : ℕ) → is_placed (order ++ x ∷ []) x ≡ true
placed-last order x = placed-more order x x ∙ ap (λ b. is_placed order x || b) (eq-eqb x x refl) ∙ or_true (is_placed order x)
  where
    or_true : (b : Bool) → (b || true) ≡ true
    or_true true = refl
    or_true false = refl

pub placed-other : (order : List ℕ) (x d : ℕ) → (d ≡ x → ⊥) → is_placed (order ++ x ∷ []) d ≡ is_placed order d
placed-other order x d ne = placed-more order x d ∙ ap (λ b. is_placed order d || b) (ne_eqb x d (λ e. ne (sym e))) ∙ or_none (is_placed order d)
  where
    or_none : (b : Bool) → (b || false) ≡ b
    or_none true = refl
    or_none false = refl

pub place-last : (order : List ℕ) (x : ℕ) → is_placed order x ≡ false → place_of (order ++ x ∷ []) x ≡ length order
place-last order x h =
    let test = placed-place order x in
    let same = position_or_len_push (λ e. e == x) order x in
    let is : (x == x) ≡ true = eq-eqb x x refl in
    let at : place_of order x ≤ length order = prefix_len-le-length _ order in
    grind (arith, nat_tests, same, is, test, at)

pub place-other : (order : List ℕ) (x d : ℕ) → is_placed order d ≡ true → place_of (order ++ x ∷ []) d ≡ place_of order d
place-other order x d h =
    let below : place_of order d < length order = place-within order d h in
    let same = position_or_len_push (λ e. e == d) order x in
    grind (arith, nat_tests, same, below)

-- the first number below a bound that passes a test
pub first-is : (p : ℕ → Bool) (n i : ℕ) → i ≤ n → ((k : ℕ) → k < i → p k ≡ false) → (i < n → p i ≡ true) → position_or_len p (range_with_len 0 n) ≡ i
first-is p n i most before here =
    position_or_len_is p (range_with_len 0 n) i 0 (omega (arith, length-range_with_len 0 n))
    (λ k lt. ap p (get_or-range_with_len 0 n k 0 (omega (arith, lt, most)) ∙ omega arith) ∙ before k lt)
    (λ lt. ap p (get_or-range_with_len 0 n i 0 (omega (arith, lt, length-range_with_len 0 n)) ∙ omega arith) ∙ here (omega (arith, lt, length-range_with_len 0 n)))

-- Gates that are ready

pub ready-parts : (items : List Item) (order : List ℕ) (d : ℕ) → is_ready items order d ≡ true
    → (is_input (item_at items d) ≡ false) × (is_placed order d ≡ false) × (list_all (is_placed order) (operands_at (item_at items d)) ≡ true)
ready-parts items order d h =
    let p = and_parts (not (is_input (item_at items d))) (not (is_placed order d) && list_all (is_placed order) (operands_at (item_at items d))) h in
    let q = and_parts (not (is_placed order d)) (list_all (is_placed order) (operands_at (item_at items d))) p.1 in
    (not-true (is_input (item_at items d)) p.0, not-true (is_placed order d) q.0, q.1)

pub ready-from : (items : List Item) (order : List ℕ) (d : ℕ) → is_input (item_at items d) ≡ false → is_placed order d ≡ false → list_all (is_placed order) (operands_at (item_at items d)) ≡ true
    → is_ready items order d ≡ true
ready-from items order d a b c =
    and_from (not (is_input (item_at items d))) (not (is_placed order d) && list_all (is_placed order) (operands_at (item_at items d))) (not_from_false (is_input (item_at items d)) a)
    (and_from (not (is_placed order d)) (list_all (is_placed order) (operands_at (item_at items d))) (not_from_false (is_placed order d) b) c)

contains-next : {X : Type 0} (x y : X) (xs : List X) → Contains xs y → Contains (x ∷ xs) y
contains-next x y xs h = (suc h.0, omega (arith, h.1), h.2)

contains-first : {X : Type 0} (x : X) (xs : List X) → Contains (x ∷ xs) x
contains-first x xs = (0, omega arith, refl)

-- operands that are placed with one item more were placed before, or have it among them
all-placed : (order operands : List ℕ) (x : ℕ) → list_all (is_placed (order ++ x ∷ [])) operands ≡ true → (list_all (is_placed order) operands ≡ true) ⊎ Contains operands x
all-placed order [] x h = inl refl
all-placed order (y ∷ ys) x h =
    let p = and_parts (is_placed (order ++ x ∷ []) y) (list_all (is_placed (order ++ x ∷ [])) ys) h in
    by (is_placed order y) refl (x == y) refl p.0 (all-placed order ys x p.1)
  where
    by : (b : Bool) → is_placed order y ≡ b → (e : Bool) → (x == y) ≡ e → is_placed (order ++ x ∷ []) y ≡ true → (list_all (is_placed order) ys ≡ true) ⊎ Contains ys x
        → (list_all (is_placed order) (y ∷ ys) ≡ true) ⊎ Contains (y ∷ ys) x
    by b s true t placed (inr c) = inr (contains-next y x ys c)
    by b s false t placed (inr c) = inr (contains-next y x ys c)
    by true s e t placed (inl all) = inl (and_from (is_placed order y) (list_all (is_placed order) ys) s all)
    by false s true t placed (inl all) = inr (subst (λ z. Contains (y ∷ ys) z) (sym (eqb-true x y t)) (contains-first y ys))
    by false s false t placed (inl all) = absurd (false≢true (sym (placed-more order x y ∙ ap (λ (b : Bool). b || x == y) s ∙ t) ∙ placed))

-- what is ready with one item more was ready before, or has that item as an operand
pub ready-more : (items : List Item) (order : List ℕ) (x d : ℕ) → is_ready items (order ++ x ∷ []) d ≡ true
    → (is_ready items order d ≡ true) ⊎ Contains (operands_at (item_at items d)) x
ready-more items order x d h = by (all-placed order (operands_at (item_at items d)) x p.2)
  where
    p : (is_input (item_at items d) ≡ false) × (is_placed (order ++ x ∷ []) d ≡ false) × (list_all (is_placed (order ++ x ∷ [])) (operands_at (item_at items d)) ≡ true)
    p = ready-parts items (order ++ x ∷ []) d h

    new : (d ≡ x) → ⊥
    new e = false≢true (sym p.1 ∙ ap (is_placed (order ++ x ∷ [])) e ∙ placed-last order x)

    by : (list_all (is_placed order) (operands_at (item_at items d)) ≡ true) ⊎ Contains (operands_at (item_at items d)) x → (is_ready items order d ≡ true) ⊎ Contains (operands_at (item_at items d)) x
    by (inl all) = inl (ready-from items order d p.0 (sym (placed-other order x d new) ∙ p.1) all)
    by (inr c) = inr c

-- what is ready with one item more isn't that item
pub ready-new : (items : List Item) (order : List ℕ) (x d : ℕ) → is_ready items (order ++ x ∷ []) d ≡ true → d ≡ x → ⊥
ready-new items order x d h e =
    let p = ready-parts items (order ++ x ∷ []) d h in
    false≢true (sym p.1 ∙ ap (is_placed (order ++ x ∷ [])) e ∙ placed-last order x)
