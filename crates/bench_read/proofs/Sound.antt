-- The netlist of a text: each gate follows its operands, and a circuit has room for it.
use Rattle.std.proofs.Common.{◌≡◌, ℕ, zero, suc, ◌+◌, ◌<◌, ◌≤◌, Bool, true, false, cond, not, ◌||◌, ◌==◌, List, [], ◌∷◌, ◌++◌, length, map, filter, get_or, Option, None, Some, Result, Ok, Err, refl, sym, ap, ◌∙◌, arith, subst, eqb-true, eq-eqb, ne_eqb, append_assoc, append-nil}
use Rattle.std.specs.List.{list_all, flat_map, AllByRecursion, range_with_len, position_or_len, sum_by}
use Rattle.std.proofs.lemmas.Bool.{and_parts, and_from, false≢true, not-true, eqb-false}
use Rattle.std.proofs.lemmas.List.{length-append, length-map}
use Rattle.std.proofs.lemmas.List.Elements.{All-from_recursion, All-get_or, filter-append}
use Rattle.std.proofs.lemmas.List.Sums.{sum_by-cons, sum_by-append, prefix_len-le-length}
use Rattle.std.proofs.lemmas.List.FromFn.{length-range_with_len}
use Rattle.std.proofs.lemmas.Grind.{flat_map-append}
use Rattle.circuit_text.specs.declared.kinds.GateOp.{GateOp}
use Rattle.bench_read.specs.Passes.{gate_nets}
use Rattle.bench_read.specs.Order.{Item, InputNet, GateNet, is_input, operands_at, item_at, is_placed, is_ready, next_of, place_of, inputs_of, placed_after, order_of, first_unplaced}
use Rattle.bench_read.specs.Netlists.{PlacedGate, AreGates, IsPlacedGate, IsNetlist, HasArity, nets_for, gates_for, gates_among, netlist_of}
use Rattle.bench_read.proofs.Orders.{placed-place, place-within, placed-more, placed-other, placed-last, place-other, ready-parts}
use Rattle.std.proofs.Math.Seq.{get_or-append_seam}
use Rattle.bench_read.proofs.Steps.{first_inputs, inputs-one, inputs-none, inputs-below}
use Rattle.bench_read.proofs.Resolving.{ItemArity, item_nets}

-- The first number that passes a test

found-within : (p : ℕ → Bool) (a n : ℕ) → position_or_len p (range_with_len a n) < n → p (a + position_or_len p (range_with_len a n)) ≡ true
found-within p a zero lt = absurd (omega (arith, lt))
found-within p a (suc n) lt = found-step p a n (found-within p (a + 1) n) (p a) refl lt
  where
    found-step : (p : ℕ → Bool) (a n : ℕ) → (position_or_len p (range_with_len (a + 1) n) < n → p ((a + 1) + position_or_len p (range_with_len (a + 1) n)) ≡ true) → (b : Bool) → p a ≡ b
        → cond (not b) (1 + position_or_len p (range_with_len (a + 1) n)) 0 < suc n → p (a + cond (not b) (1 + position_or_len p (range_with_len (a + 1) n)) 0) ≡ true
    found-step p a n ih true e lt = ap p (omega arith) ∙ e
    found-step p a n ih false e lt = ap p (omega arith) ∙ ih (omega (arith, lt))

none-before : (p : ℕ → Bool) (a n k : ℕ) → k < position_or_len p (range_with_len a n) → p (a + k) ≡ false
none-before p a zero k lt = absurd (omega (arith, lt))
none-before p a (suc n) k lt = before-step p a n k (none-before p (a + 1) n) (p a) refl lt
  where
    before-step : (p : ℕ → Bool) (a n k : ℕ) → ((j : ℕ) → j < position_or_len p (range_with_len (a + 1) n) → p ((a + 1) + j) ≡ false) → (b : Bool) → p a ≡ b
        → k < cond (not b) (1 + position_or_len p (range_with_len (a + 1) n)) 0 → p (a + k) ≡ false
    before-step p a n k ih true e lt = absurd (omega (arith, lt))
    before-step p a n zero ih false e lt = ap p (omega arith) ∙ e
    before-step p a n (suc k) ih false e lt = ap p (omega arith) ∙ ih k (omega (arith, lt))

-- where an item is next, it is ready
pub next-ready : (items : List Item) (placed : List ℕ) → (next_of items placed == length items) ≡ false → (next_of items placed < length items) × (is_ready items placed (next_of items placed) ≡ true)
next-ready items placed h =
    let p = is_ready items placed in
    let most : next_of items placed ≤ length items = omega (arith, prefix_len-le-length (λ d. not (p d)) (range_with_len 0 (length items)), length-range_with_len 0 (length items)) in
    let ne : next_of items placed ≡ length items → ⊥ = eqb-false (next_of items placed) (length items) h in
    let lt : next_of items placed < length items = omega (arith, most, ne) in
    (lt, sym (ap p (omega arith)) ∙ found-within p 0 (length items) lt)

-- where no item is left, each is placed
pub all-are-placed : (count : ℕ) (placed : List ℕ) → first_unplaced count placed ≡ count → (d : ℕ) → d < count → is_placed placed d ≡ true
all-are-placed count placed h d lt =
    let none : not (is_placed placed (0 + d)) ≡ false = none-before (λ e. not (is_placed placed e)) 0 count d (omega (arith, lt, h)) in
    let same : is_placed placed (0 + d) ≡ is_placed placed d = ap (is_placed placed) (omega arith) in
    by (is_placed placed d) refl (sym (ap not same) ∙ none)
  where
    by : (b : Bool) → is_placed placed d ≡ b → not (is_placed placed d) ≡ false → is_placed placed d ≡ true
    by true e g = e
    by false e g = absurd (false≢true (sym g ∙ ap not e))

-- Numbers of items, as inputs and gates

module _ (items : List Item) where
  abbrev inputs_in : List ℕ → List ℕ
  inputs_in numbers = filter (λ d. is_input (item_at items d)) numbers

  abbrev nets_at : ℕ → ℕ
  nets_at d = item_nets (item_at items d)

  parted-one : (order : List ℕ) (x : Item) → cond (is_input x) 1 0 + length (gates_for order x) ≡ 1
  parted-one order InputNet = refl
  parted-one order (GateNet op operands) = refl

  nets-one : (order : List ℕ) (x : Item) → cond (is_input x) 1 0 + nets_for (gates_for order x) ≡ item_nets x
  nets-one order InputNet = refl
  nets-one order (GateNet op operands) = omega (arith, ap gate_nets (length-map operands (place_of order)))

  filter-one : (d : ℕ) (numbers : List ℕ) → length (inputs_in (d ∷ numbers)) ≡ cond (is_input (item_at items d)) 1 0 + length (inputs_in numbers)
  filter-one d numbers = by (is_input (item_at items d))
    where
      by : (b : Bool) → length (cond b (d ∷ inputs_in numbers) (inputs_in numbers)) ≡ cond b 1 0 + length (inputs_in numbers)
      by true = omega arith
      by false = omega arith

  -- the numbers are those of inputs and of gates
  parted : (order numbers : List ℕ) → length numbers ≡ length (inputs_in numbers) + length (gates_among items order numbers)
  parted order [] = refl
  parted order (d ∷ numbers) =
      omega (arith, parted order numbers, filter-one d numbers, parted-one order (item_at items d), length-append (gates_for order (item_at items d)) (gates_among items order numbers))

  nets-parted : (order numbers : List ℕ) → sum_by nets_at numbers ≡ length (inputs_in numbers) + nets_for (gates_among items order numbers)
  nets-parted order [] = refl
  nets-parted order (d ∷ numbers) =
      omega (
        arith,
        nets-parted order numbers,
        sum_by-cons nets_at d numbers,
        filter-one d numbers,
        nets-one order (item_at items d),
        sum_by-append (λ (g : PlacedGate). gate_nets (length g.operands)) (gates_for order (item_at items d)) (gates_among items order numbers),
      )

  -- The nets that are still to be placed

  abbrev left_at : List ℕ → ℕ → ℕ
  left_at placed d = cond (is_placed placed d) 0 (nets_at d)

  left-other : (placed : List ℕ) (x a n : ℕ) → x < a → sum_by (left_at (placed ++ x ∷ [])) (range_with_len a n) ≡ sum_by (left_at placed) (range_with_len a n)
  left-other placed x a zero lt = refl
  left-other placed x a (suc n) lt =
      let same : left_at (placed ++ x ∷ []) a ≡ left_at placed a = ap (λ b. cond b 0 (nets_at a)) (placed-other placed x a (λ e. omega (arith, e, lt))) in
      omega (arith, same, left-other placed x (a + 1) n (omega (arith, lt)), sum_by-cons (left_at (placed ++ x ∷ [])) a (range_with_len (a + 1) n), sum_by-cons (left_at placed) a (range_with_len (a + 1) n))

  left-step : (placed : List ℕ) (x a n : ℕ) → is_placed placed x ≡ false → (x < a + suc n → (a + 1) ≤ x → sum_by (left_at (placed ++ x ∷ [])) (range_with_len (a + 1) n) + nets_at x ≡ sum_by (left_at placed) (range_with_len (a + 1) n))
      → a ≤ x → x < a + suc n → (b : Bool) → (a == x) ≡ b → sum_by (left_at (placed ++ x ∷ [])) (range_with_len a (suc n)) + nets_at x ≡ sum_by (left_at placed) (range_with_len a (suc n))
  left-step placed x a n new ih from upto true e =
      let is : a ≡ x = eqb-true a x e in
      let gone : left_at (placed ++ x ∷ []) a ≡ 0 = ap (left_at (placed ++ x ∷ [])) is ∙ ap (λ b. cond b 0 (nets_at x)) (placed-last placed x) in
      let was : left_at placed a ≡ nets_at x = ap (left_at placed) is ∙ ap (λ b. cond b 0 (nets_at x)) new in
      omega (arith, gone, was, left-other placed x (a + 1) n (omega (arith, is)), sum_by-cons (left_at (placed ++ x ∷ [])) a (range_with_len (a + 1) n), sum_by-cons (left_at placed) a (range_with_len (a + 1) n))
  left-step placed x a n new ih from upto false e =
      let ne : a ≡ x → ⊥ = eqb-false a x e in
      let same : left_at (placed ++ x ∷ []) a ≡ left_at placed a = ap (λ b. cond b 0 (nets_at a)) (placed-other placed x a ne) in
      omega (arith, same, ih upto (omega (arith, from, ne)), sum_by-cons (left_at (placed ++ x ∷ [])) a (range_with_len (a + 1) n), sum_by-cons (left_at placed) a (range_with_len (a + 1) n))

  left-less : (placed : List ℕ) (x a n : ℕ) → is_placed placed x ≡ false → a ≤ x → x < a + n → sum_by (left_at (placed ++ x ∷ [])) (range_with_len a n) + nets_at x ≡ sum_by (left_at placed) (range_with_len a n)
  left-less placed x a zero new from upto = absurd (omega (arith, from, upto))
  left-less placed x a (suc n) new from upto =
      left-step placed x a n new (λ u f. left-less placed x (a + 1) n new f (omega (arith, u))) from upto (a == x) refl

  -- Gates whose operands are placed

  places-same : (placed : List ℕ) (x : ℕ) (operands : List ℕ) → list_all (is_placed placed) operands ≡ true → map (place_of (placed ++ x ∷ [])) operands ≡ map (place_of placed) operands
  places-same placed x [] h = refl
  places-same placed x (y ∷ ys) h =
      let p = and_parts (is_placed placed y) (list_all (is_placed placed) ys) h in
      ap (λ q. q ∷ map (place_of (placed ++ x ∷ [])) ys) (place-other placed x y p.0) ∙ ap (λ qs. place_of placed y ∷ qs) (places-same placed x ys p.1)

  gates-same : (placed : List ℕ) (x : ℕ) (item : Item) → list_all (is_placed placed) (operands_at item) ≡ true → gates_for (placed ++ x ∷ []) item ≡ gates_for placed item
  gates-same placed x InputNet h = refl
  gates-same placed x (GateNet op operands) h = ap (λ os. record { op = op; operands = os } ∷ []) (places-same placed x operands h)

  abbrev IsClosed : List ℕ → List ℕ → Type 0
  IsClosed placed numbers = AllByRecursion (λ e. list_all (is_placed placed) (operands_at (item_at items e)) ≡ true) numbers

  among-same : (placed : List ℕ) (x : ℕ) (numbers : List ℕ) → IsClosed placed numbers → gates_among items (placed ++ x ∷ []) numbers ≡ gates_among items placed numbers
  among-same placed x [] h = refl
  among-same placed x (e ∷ numbers) h =
      ap (λ gs. gs ++ gates_among items (placed ++ x ∷ []) numbers) (gates-same placed x (item_at items e) h.0)
      ∙ ap (λ gs. gates_for placed (item_at items e) ++ gs) (among-same placed x numbers h.1)

  still-placed : (placed : List ℕ) (x : ℕ) (operands : List ℕ) → list_all (is_placed placed) operands ≡ true → list_all (is_placed (placed ++ x ∷ [])) operands ≡ true
  still-placed placed x [] h = refl
  still-placed placed x (y ∷ ys) h =
      let p = and_parts (is_placed placed y) (list_all (is_placed placed) ys) h in
      and_from (is_placed (placed ++ x ∷ []) y) (list_all (is_placed (placed ++ x ∷ [])) ys) (placed-more placed x y ∙ ap (λ b. b || (x == y)) p.0) (still-placed placed x ys p.1)

  still-closed : (placed : List ℕ) (x : ℕ) (numbers : List ℕ) → IsClosed placed numbers → list_all (is_placed placed) (operands_at (item_at items x)) ≡ true → IsClosed (placed ++ x ∷ []) (numbers ++ x ∷ [])
  still-closed placed x [] h here = (still-placed placed x (operands_at (item_at items x)) here, tt)
  still-closed placed x (e ∷ numbers) h here = (still-placed placed x (operands_at (item_at items e)) h.0, still-closed placed x numbers h.1 here)

  places-below : (placed operands : List ℕ) → list_all (is_placed placed) operands ≡ true → AllByRecursion (λ p. p < length placed) (map (place_of placed) operands)
  places-below placed [] h = tt
  places-below placed (y ∷ ys) h =
      let p = and_parts (is_placed placed y) (list_all (is_placed placed) ys) h in
      (place-within placed y p.0, places-below placed ys p.1)

  arity-map : (op : GateOp) (f : ℕ → ℕ) (operands : List ℕ) → HasArity op operands → HasArity op (map f operands)
  arity-map op f [] h = h
  arity-map op f (a ∷ []) h = h
  arity-map op f (a ∷ b ∷ more) h = h

  gate-next : (placed : List ℕ) (item : Item) → ItemArity item → list_all (is_placed placed) (operands_at item) ≡ true → AreGates (length placed) (gates_for placed item)
  gate-next placed InputNet arity h = tt
  gate-next placed (GateNet op operands) arity h = (record { arity = arity-map op (place_of placed) operands arity; before = places-below placed operands h }, tt)

  gates-append : (places : ℕ) (xs ys : List PlacedGate) → AreGates places xs → AreGates (places + length xs) ys → AreGates places (xs ++ ys)
  gates-append places [] ys h g = subst (λ n. AreGates n ys) (omega arith) g
  gates-append places (x ∷ xs) ys h g = (h.0, gates-append (places + 1) xs ys h.1 (subst (λ n. AreGates n ys) (omega arith) g))

  -- What placing keeps
  pub record IsOrdered (placed : List ℕ) : Type 0 where
    pub inputs : length (inputs_in placed) ≡ length (inputs_of items)
    pub gates : AreGates (length (inputs_of items)) (gates_among items placed placed)
    pub closed : IsClosed placed placed
    pub nets : sum_by nets_at placed + sum_by (left_at placed) (range_with_len 0 (length items)) ≡ sum_by nets_at (range_with_len 0 (length items))

  ordered-more : (placed : List ℕ) (d : ℕ) → AllByRecursion ItemArity items → IsOrdered placed → d < length items → is_ready items placed d ≡ true → IsOrdered (placed ++ d ∷ [])
  ordered-more placed d arity is lt ready = record {
    inputs = ap length (filter-append (λ e. is_input (item_at items e)) placed (d ∷ [])) ∙ ap (λ b. length (inputs_in placed ++ cond b (d ∷ []) [])) p.0 ∙ ap length (append-nil (inputs_in placed)) ∙ is.inputs;
    gates = subst (AreGates (length (inputs_of items))) (sym gates)
        (gates-append (length (inputs_of items)) (gates_among items placed placed) (gates_for placed (item_at items d)) is.gates
        (subst (λ n. AreGates n (gates_for placed (item_at items d))) (omega (arith, parted placed placed, is.inputs)) (gate-next placed (item_at items d) here p.2)));
    closed = still-closed placed d placed is.closed p.2;
    nets = omega (arith, is.nets, sum_by-append nets_at placed (d ∷ []), sum_by-cons nets_at d [], left-less placed d 0 (length items) p.1 (omega arith) (omega (arith, lt)));
  }
    where
      p : (is_input (item_at items d) ≡ false) × (is_placed placed d ≡ false) × (list_all (is_placed placed) (operands_at (item_at items d)) ≡ true)
      p = ready-parts items placed d ready

      here : ItemArity (item_at items d)
      here = All-get_or ItemArity items d InputNet lt (All-from_recursion ItemArity items arity)

      gates : gates_among items (placed ++ d ∷ []) (placed ++ d ∷ []) ≡ gates_among items placed placed ++ gates_for placed (item_at items d)
      gates =
          flat_map-append (λ e. gates_for (placed ++ d ∷ []) (item_at items e)) placed (d ∷ [])
          ∙ ap (λ gs. gs ++ (gates_for (placed ++ d ∷ []) (item_at items d) ++ [])) (among-same placed d placed is.closed)
          ∙ ap (λ gs. gates_among items placed placed ++ gs) (append-nil (gates_for (placed ++ d ∷ []) (item_at items d)) ∙ gates-same placed d (item_at items d) p.2)

  ordered-step : (k : ℕ) (placed : List ℕ) → AllByRecursion ItemArity items → IsOrdered placed → (IsOrdered (placed ++ next_of items placed ∷ []) → IsOrdered (placed_after k items (placed ++ next_of items placed ∷ [])))
      → (b : Bool) → (next_of items placed == length items) ≡ b → IsOrdered (cond b placed (placed_after k items (placed ++ next_of items placed ∷ [])))
  ordered-step k placed arity is ih true e = is
  ordered-step k placed arity is ih false e =
      let p = next-ready items placed e in
      ih (ordered-more placed (next_of items placed) arity is p.0 p.1)

  ordered-after : (k : ℕ) (placed : List ℕ) → AllByRecursion ItemArity items → IsOrdered placed → IsOrdered (placed_after k items placed)
  unfolding placed_after
  ordered-after zero placed arity is = is
  ordered-after (suc k) placed arity is =
      ordered-step k placed arity is (λ more. ordered-after k (placed ++ next_of items placed ∷ []) arity more) (next_of items placed == length items) refl

  -- The inputs

  inputs-twice : (xs : List ℕ) → inputs_in (inputs_in xs) ≡ inputs_in xs
  inputs-twice [] = refl
  inputs-twice (x ∷ xs) = twice-step x xs (inputs-twice xs) (is_input (item_at items x)) refl
    where
      twice-step : (x : ℕ) (xs : List ℕ) → inputs_in (inputs_in xs) ≡ inputs_in xs → (b : Bool) → is_input (item_at items x) ≡ b → inputs_in (cond b (x ∷ inputs_in xs) (inputs_in xs)) ≡ cond b (x ∷ inputs_in xs) (inputs_in xs)
      twice-step x xs ih true e = ap (λ b. cond b (x ∷ inputs_in (inputs_in xs)) (inputs_in (inputs_in xs))) e ∙ ap (λ ys. x ∷ ys) ih
      twice-step x xs ih false e = ih

  no-gate : (order : List ℕ) (item : Item) → is_input item ≡ true → gates_for order item ≡ []
  no-gate order InputNet h = refl
  no-gate order (GateNet op operands) h = absurd (false≢true h)

  no-operand : (item : Item) → is_input item ≡ true → operands_at item ≡ []
  no-operand InputNet h = refl
  no-operand (GateNet op operands) h = absurd (false≢true h)

  no-gates : (order xs : List ℕ) → gates_among items order (inputs_in xs) ≡ []
  no-gates order [] = refl
  no-gates order (x ∷ xs) = gates-step order x xs (no-gates order xs) (is_input (item_at items x)) refl
    where
      gates-step : (order : List ℕ) (x : ℕ) (xs : List ℕ) → gates_among items order (inputs_in xs) ≡ [] → (b : Bool) → is_input (item_at items x) ≡ b → gates_among items order (cond b (x ∷ inputs_in xs) (inputs_in xs)) ≡ []
      gates-step order x xs ih true e = ap (λ gs. gs ++ gates_among items order (inputs_in xs)) (no-gate order (item_at items x) e) ∙ ih
      gates-step order x xs ih false e = ih

  inputs-closed : (placed xs : List ℕ) → IsClosed placed (inputs_in xs)
  inputs-closed placed [] = tt
  inputs-closed placed (x ∷ xs) = closed-step placed x xs (inputs-closed placed xs) (is_input (item_at items x)) refl
    where
      closed-step : (placed : List ℕ) (x : ℕ) (xs : List ℕ) → IsClosed placed (inputs_in xs) → (b : Bool) → is_input (item_at items x) ≡ b → IsClosed placed (cond b (x ∷ inputs_in xs) (inputs_in xs))
      closed-step placed x xs ih true e = (ap (list_all (is_placed placed)) (no-operand (item_at items x) e), ih)
      closed-step placed x xs ih false e = ih

  nets-step : (k : ℕ) → k < length items → sum_by nets_at (first_inputs items k) + sum_by (left_at (first_inputs items k)) (range_with_len 0 (length items)) ≡ sum_by nets_at (range_with_len 0 (length items)) → (b : Bool) → is_input (item_at items k) ≡ b
      → sum_by nets_at (first_inputs items (k + 1)) + sum_by (left_at (first_inputs items (k + 1))) (range_with_len 0 (length items)) ≡ sum_by nets_at (range_with_len 0 (length items))
  nets-step k lt ih true e =
      let f = first_inputs items k in
      let more : first_inputs items (k + 1) ≡ f ++ k ∷ [] = inputs-one items k e in
      rw more (omega (arith, ih, sum_by-append nets_at f (k ∷ []), sum_by-cons nets_at k [], left-less f k 0 (length items) (inputs-below items k k (omega arith)) (omega arith) (omega (arith, lt))))
  nets-step k lt ih false e = rw (inputs-none items k e) ih

  nets-none : (a n : ℕ) → sum_by (left_at []) (range_with_len a n) ≡ sum_by nets_at (range_with_len a n)
  nets-none a zero = refl
  nets-none a (suc n) = omega (arith, nets-none (a + 1) n, sum_by-cons (left_at []) a (range_with_len (a + 1) n), sum_by-cons nets_at a (range_with_len (a + 1) n))

  inputs-nets : (k : ℕ) → k ≤ length items → sum_by nets_at (first_inputs items k) + sum_by (left_at (first_inputs items k)) (range_with_len 0 (length items)) ≡ sum_by nets_at (range_with_len 0 (length items))
  inputs-nets zero most = omega (arith, nets-none 0 (length items))
  inputs-nets (suc k) most =
      let next : suc k ≡ k + 1 = omega arith in
      subst (λ m. sum_by nets_at (first_inputs items m) + sum_by (left_at (first_inputs items m)) (range_with_len 0 (length items)) ≡ sum_by nets_at (range_with_len 0 (length items))) (sym next)
      (nets-step k (omega (arith, most)) (inputs-nets k (omega (arith, most))) (is_input (item_at items k)) refl)

  inputs-ordered : IsOrdered (inputs_of items)
  inputs-ordered = record {
    inputs = ap length (inputs-twice (range_with_len 0 (length items)));
    gates = subst (AreGates (length (inputs_of items))) (sym (no-gates (inputs_of items) (range_with_len 0 (length items)))) tt;
    closed = inputs-closed (inputs_of items) (range_with_len 0 (length items));
    nets = inputs-nets (length items) (omega arith);
  }

  pub order-sound : AllByRecursion ItemArity items → IsOrdered (order_of items)
  order-sound arity = ordered-after (length items) (inputs_of items) arity inputs-ordered

-- the nets of items, by their numbers
range-nets : (before rest : List Item) → sum_by (λ d. item_nets (item_at (before ++ rest) d)) (range_with_len (length before) (length rest)) ≡ sum_by item_nets rest
range-nets before [] = refl
range-nets before (x ∷ rest) =
    let here : item_at (before ++ x ∷ rest) (length before) ≡ x = get_or-append_seam before x rest InputNet in
    let again : (before ++ x ∷ []) ++ rest ≡ before ++ x ∷ rest = append_assoc before (x ∷ []) rest in
    let long : length (before ++ x ∷ []) ≡ length before + 1 = length-append before (x ∷ []) in
    let later : sum_by (λ d. item_nets (item_at (before ++ x ∷ rest) d)) (range_with_len (length before + 1) (length rest)) ≡ sum_by item_nets rest
    = subst (λ (is : List Item). sum_by (λ d. item_nets (item_at is d)) (range_with_len (length before + 1) (length rest)) ≡ sum_by item_nets rest) again
    (subst (λ n. sum_by (λ d. item_nets (item_at ((before ++ x ∷ []) ++ rest) d)) (range_with_len n (length rest)) ≡ sum_by item_nets rest) long (range-nets (before ++ x ∷ []) rest)) in
    sum_by-cons (λ d. item_nets (item_at (before ++ x ∷ rest) d)) (length before) (range_with_len (length before + 1) (length rest))
    ∙ ap (λ y. item_nets y + sum_by (λ d. item_nets (item_at (before ++ x ∷ rest) d)) (range_with_len (length before + 1) (length rest))) here
    ∙ ap (λ n. item_nets x + n) later ∙ sym (sum_by-cons item_nets x rest)

outputs-placed : (order outputs : List ℕ) (count : ℕ) → ((d : ℕ) → d < count → is_placed order d ≡ true) → AllByRecursion (λ d. d < count) outputs → AllByRecursion (λ p. p < length order) (map (place_of order) outputs)
outputs-placed order [] count whole h = tt
outputs-placed order (d ∷ outputs) count whole h = (place-within order d (whole d h.0), outputs-placed order outputs count whole h.1)

-- the netlist of items that are all placed
pub items-sound : (items : List Item) (outputs : List ℕ) → AllByRecursion ItemArity items → sum_by item_nets items ≤ 65536 → AllByRecursion (λ d. d < length items) outputs → 1 ≤ length outputs
    → first_unplaced (length items) (order_of items) ≡ length items → IsNetlist (netlist_of items (order_of items) outputs)
items-sound items outputs arity few within some whole =
    let is : IsOrdered items (order_of items) = order-sound items arity in
    let order = order_of items in
    let count : length order ≡ length (inputs_of items) + length (gates_among items order order) = parted items order order ∙ ap (λ n. n + length (gates_among items order order)) is.inputs in
    record {
      gates_are = is.gates;
      outputs_are = subst (λ n. AllByRecursion (λ p. p < n) (map (place_of order) outputs)) count (outputs-placed order outputs (length items) (all-are-placed (length items) order whole) within);
      some = omega (arith, length-map outputs (place_of order), some);
      few = omega (arith, nets-parted items order order, is.inputs, is.nets, range-nets [] items, few);
    }
