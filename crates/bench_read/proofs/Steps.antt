-- The steps of the placing.
use Rattle.std.proofs.Common.{◌≡◌, ℕ, zero, suc, ◌+◌, ◌<◌, ◌≤◌, ◌⊎◌, Bool, true, false, cond, ◌==◌, List, [], ◌∷◌, ◌++◌, length, map, filter, get_or, refl, sym, ap, ◌∙◌, inl, inr, arith, subst, eq-eqb, ne_eqb, append-nil}
use Rattle.std.specs.List.{list_all, range_with_len, All, Contains}
use Rattle.std.proofs.lemmas.List.{length-append}
use Rattle.std.proofs.lemmas.List.Elements.{All-contains, All-from_get_or, filter-append}
use Rattle.std.proofs.lemmas.List.FromFn.{map-range_with_len_more}
use Rattle.std.proofs.lemmas.Bool.{false≢true}
use Rattle.bench_read.specs.Order.{Item, is_input, operands_at, item_at, is_placed, is_ready, next_of, inputs_of, placed_after}
use Rattle.bench_read.specs.Placing.{OrderView, AreUsers, Covers}
use Rattle.bench_read.proofs.Orders.{first-is, ready-more, ready-new, placed-other, placed-more}

-- where no gate is ready, no more are placed
pub placed-done : (k : ℕ) (items : List Item) (placed : List ℕ) → next_of items placed ≡ length items → placed_after k items placed ≡ placed
unfolding placed_after
placed-done zero items placed h = refl
placed-done (suc k) items placed h =
    ap (λ b. cond b placed (placed_after k items (placed ++ next_of items placed ∷ []))) (eq-eqb (next_of items placed) (length items) h)

-- the first gate that is ready is placed
pub placed-step : (k : ℕ) (items : List Item) (placed : List ℕ) (d : ℕ) → next_of items placed ≡ d → d < length items → placed_after (suc k) items placed ≡ placed_after k items (placed ++ d ∷ [])
unfolding placed_after
placed-step k items placed d h lt =
    let other : (next_of items placed == length items) ≡ false = ne_eqb (next_of items placed) (length items) (λ e. omega (arith, e, h, lt)) in
    ap (λ b. cond b placed (placed_after k items (placed ++ next_of items placed ∷ []))) other ∙ ap (λ n. placed_after k items (placed ++ n ∷ [])) h

pub placed-none : (items : List Item) (placed : List ℕ) → placed_after 0 items placed ≡ placed
unfolding placed_after
placed-none items placed = refl

contains-nothing : (d : ℕ) → Contains [] d → ⊥
contains-nothing d c = omega (arith, c.1)

not-ready : (items : List Item) (placed : List ℕ) (d : ℕ) → (is_ready items placed d ≡ true → ⊥) → is_ready items placed d ≡ false
not-ready items placed d h = by (is_ready items placed d) refl
  where
    by : (b : Bool) → is_ready items placed d ≡ b → is_ready items placed d ≡ false
    by true e = absurd (h e)
    by false e = e

pub none-ready : (items : List Item) (placed found : List ℕ) → Covers items placed found → found ≡ [] → next_of items placed ≡ length items
none-ready items placed found covers e =
    first-is (is_ready items placed) (length items) (length items) (omega arith)
    (λ k lt. not-ready items placed k (λ r. contains-nothing k (subst (λ f. Contains f k) e (covers k lt r))))
    (λ lt. absurd (omega (arith, lt)))

pub first-ready : (items : List Item) (placed found : List ℕ) (d : ℕ) → Covers items placed found → All (λ e. d ≤ e) found → d < length items → is_ready items placed d ≡ true → next_of items placed ≡ d
first-ready items placed found d covers least lt ready =
    first-is (is_ready items placed) (length items) d (omega (arith, lt))
    (λ k below. not-ready items placed k (λ r. omega (arith, below, All-contains (λ e. d ≤ e) found k least (covers k (omega (arith, below, lt)) r))))
    (λ within. ready)

-- an item that isn't ready may go
pub covers-left : (items : List Item) (placed found new : List ℕ) (d : ℕ) → Covers items placed found → ((e : ℕ) → Contains found e → (e ≡ d) ⊎ Contains new e) → is_ready items placed d ≡ false → Covers items placed new
covers-left items placed found new d covers left other e lt r = by (left e (covers e lt r))
  where
    by : (e ≡ d) ⊎ Contains new e → Contains new e
    by (inl same) = absurd (false≢true (sym other ∙ ap (is_ready items placed) (sym same) ∙ r))
    by (inr c) = c

-- the items that are ready once x is placed
pub covers-more : (items : List Item) (users : List (List ℕ)) (placed : List ℕ) (x : ℕ) (old new : List ℕ) → AreUsers items users
    → ((e : ℕ) → e < length items → is_ready items placed e ≡ true → (e ≡ x) ⊎ Contains old e)
    → ((d : ℕ) → Contains (get_or users x []) d → is_ready items (placed ++ x ∷ []) d ≡ true → Contains new d)
    → ((d : ℕ) → Contains old d → Contains new d) → Covers items (placed ++ x ∷ []) new
covers-more items users placed x old new are left offered kept d lt r = by (ready-more items placed x d r)
  where
    again : (d ≡ x) ⊎ Contains old d → Contains new d
    again (inl same) = absurd (ready-new items placed x d r same)
    again (inr c) = kept d c

    by : (is_ready items placed d ≡ true) ⊎ Contains (operands_at (item_at items d)) x → Contains new d
    by (inl was) = again (left d lt was)
    by (inr c) = offered d (are.each d x lt c) r

-- what was found at each place of a list
pub contains-at : (P : ℕ → Type 0) (numbers : List ℕ) → ((k : ℕ) → k < length numbers → P (get_or numbers k 0)) → (d : ℕ) → Contains numbers d → P d
contains-at P numbers h d c = All-contains P numbers d (All-from_get_or P numbers 0 h) c

-- The inputs

range-more : (a n : ℕ) → range_with_len a (n + 1) ≡ range_with_len a n ++ (a + n) ∷ []
range-more a n = by (map-range_with_len_more (λ x. x) a n (a + n) refl)
  where
    same : (xs : List ℕ) → map (λ x. x) xs ≡ xs
    same [] = refl
    same (x ∷ xs) = ap (λ ys. x ∷ ys) (same xs)

    by : map (λ x. x) (range_with_len a (n + 1)) ≡ map (λ x. x) (range_with_len a n) ++ (a + n) ∷ [] → range_with_len a (n + 1) ≡ range_with_len a n ++ (a + n) ∷ []
    by e = sym (same (range_with_len a (n + 1))) ∙ e ∙ ap (λ xs. xs ++ (a + n) ∷ []) (same (range_with_len a n))

-- the inputs among the first n items
abbrev pub first_inputs : List Item → ℕ → List ℕ
first_inputs items n = filter (λ d. is_input (item_at items d)) (range_with_len 0 n)

inputs-more : (items : List Item) (n : ℕ) (b : Bool) → is_input (item_at items n) ≡ b → first_inputs items (n + 1) ≡ first_inputs items n ++ cond b (n ∷ []) []
inputs-more items n b e =
    ap (filter (λ d. is_input (item_at items d))) (range-more 0 n)
    ∙ filter-append (λ d. is_input (item_at items d)) (range_with_len 0 n) ((0 + n) ∷ [])
    ∙ ap (λ m. first_inputs items n ++ filter (λ d. is_input (item_at items d)) (m ∷ [])) (omega arith)
    ∙ ap (λ c. first_inputs items n ++ cond c (n ∷ []) []) e

pub inputs-one : (items : List Item) (n : ℕ) → is_input (item_at items n) ≡ true → first_inputs items (n + 1) ≡ first_inputs items n ++ n ∷ []
inputs-one items n e = inputs-more items n true e

pub inputs-none : (items : List Item) (n : ℕ) → is_input (item_at items n) ≡ false → first_inputs items (n + 1) ≡ first_inputs items n
inputs-none items n e = inputs-more items n false e ∙ append-nil (first_inputs items n)

-- an input more or none
pub inputs-next : (items : List Item) (n : ℕ) (item : Item) → item_at items n ≡ item → first_inputs items (n + 1) ≡ first_inputs items n ++ cond (is_input item) (n ∷ []) []
inputs-next items n item e = inputs-more items n (is_input item) (ap is_input e)

below-step : (items : List Item) (n m : ℕ) → (m ≡ n → ⊥) → is_placed (first_inputs items n) m ≡ false → (b : Bool) → is_input (item_at items n) ≡ b → is_placed (first_inputs items (n + 1)) m ≡ false
below-step items n m ne ih true e = ap (λ xs. is_placed xs m) (inputs-one items n e) ∙ placed-other (first_inputs items n) n m ne ∙ ih
below-step items n m ne ih false e = ap (λ xs. is_placed xs m) (inputs-none items n e) ∙ ih

-- the first n items don't have item n among them, and are n at most
pub inputs-below : (items : List Item) (n m : ℕ) → n ≤ m → is_placed (first_inputs items n) m ≡ false
inputs-below items zero m lt = refl
inputs-below items (suc n) m lt =
    let next : suc n ≡ n + 1 = omega arith in
    let ne : m ≡ n → ⊥ = λ e. omega (arith, lt, e) in
    ap (λ k. is_placed (first_inputs items k) m) next ∙ below-step items n m ne (inputs-below items n m (omega (arith, lt))) (is_input (item_at items n)) refl

few-step : (items : List Item) (n : ℕ) → length (first_inputs items n) ≤ n → (b : Bool) → is_input (item_at items n) ≡ b → length (first_inputs items (n + 1)) ≤ n + 1
few-step items n ih true e = omega (arith, ih, ap length (inputs-one items n e), length-append (first_inputs items n) (n ∷ []))
few-step items n ih false e = omega (arith, ih, ap length (inputs-none items n e))

pub inputs-few : (items : List Item) (n : ℕ) → length (first_inputs items n) ≤ n
inputs-few items zero = omega arith
inputs-few items (suc n) =
    let next : suc n ≡ n + 1 = omega arith in
    subst (λ k. length (first_inputs items k) ≤ k) (sym next) (few-step items n (inputs-few items n) (is_input (item_at items n)) refl)

-- an order by its parts
pub same-order : (v : OrderView) (count : ℕ) (placed : List ℕ) → v.count ≡ count → v.placed ≡ placed → v ≡ record { count = count; placed = placed }
same-order v count placed e f = λ i. record { count = e i; placed = f i }
