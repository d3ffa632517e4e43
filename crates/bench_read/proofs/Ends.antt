-- How the reading of a text ends.
use Rattle.std.proofs.Common.{◌≡◌, ℕ, zero, suc, ◌+◌, ◌<◌, ◌≤◌, Bool, true, false, cond, ◌==◌, List, [], ◌∷◌, ◌++◌, length, map, filter, get_or, Option, None, Some, Result, Ok, Err, refl, sym, ap, ◌∙◌, arith, subst, eq-eqb, ne_eqb}
use Rattle.std.specs.List.{flat_map, onto_first, AllByRecursion, All, range_with_len}
use Rattle.std.proofs.lemmas.List.Elements.{All-from_recursion}
use Rattle.surf_text.specs.Lines.{lines_of}
use Rattle.species.specs.Texts.{is_in, index_of}
use Rattle.bench_read.specs.declared.fault.BenchKind.TheVariants.{Cycle, NoOutput}
use Rattle.bench_read.specs.declared.fault.BenchFault.{BenchFault}
use Rattle.bench_read.specs.Lines.{Name, LineSort, sort_of}
use Rattle.bench_read.specs.Passes.{defines, puts_out, fault_at, first_pass, second_pass, third_pass}
use Rattle.bench_read.specs.Order.{Item, is_input, item_at, items_in, lines_from, next_of, inputs_of, placed_after, order_of, first_unplaced}
use Rattle.bench_read.specs.Netlists.{Netlist, netlist_of, unless, placed_netlist, netlist_by, netlist_in}
use Rattle.bench_read.proofs.Sound.{next-ready}

-- The lines that can't be placed

pub placed-fault : (items : List Item) (lines outputs : List ℕ) (d line : ℕ) → first_unplaced (length items) (order_of items) ≡ d → d < length items → line ≡ get_or lines d 0
    → placed_netlist items lines outputs ≡ Err (fault_at line Cycle)
placed-fault items lines outputs d line e lt at =
    let some : (first_unplaced (length items) (order_of items) == length items) ≡ false = ne_eqb (first_unplaced (length items) (order_of items)) (length items) (λ g. omega (arith, g, e, lt)) in
    ap (λ b. cond b (Ok (netlist_of items (order_of items) outputs)) (Err (fault_at (get_or lines (first_unplaced (length items) (order_of items)) 0) Cycle))) some
    ∙ ap (λ k. Err (fault_at (get_or lines k 0) Cycle)) e ∙ ap (λ n. Err (fault_at n Cycle)) (sym at)

pub placed-ok : (items : List Item) (lines outputs : List ℕ) → first_unplaced (length items) (order_of items) ≡ length items → placed_netlist items lines outputs ≡ Ok (netlist_of items (order_of items) outputs)
placed-ok items lines outputs e =
    ap (λ b. cond b (Ok (netlist_of items (order_of items) outputs)) (Err (fault_at (get_or lines (first_unplaced (length items) (order_of items)) 0) Cycle))) (eq-eqb (first_unplaced (length items) (order_of items)) (length items) e)

-- The whole text

module _ (text : List ℕ) where
  abbrev sorts : List LineSort
  sorts = map sort_of (lines_of text)

  abbrev rest_by : List Name → Result Netlist BenchFault
  rest_by names = placed_netlist (flat_map (items_in names) sorts) (lines_from 1 sorts) (map (index_of names) (flat_map puts_out sorts))

  pub first-fault : (f : BenchFault) → first_pass 1 [] 0 sorts ≡ Some f → netlist_in text ≡ Err f
  first-fault f h = ap (λ o. unless o (unless (second_pass (is_in (flat_map defines sorts)) 1 sorts) (unless (third_pass sorts) (rest_by (flat_map defines sorts))))) h

  pub second-fault : (names : List Name) (f : BenchFault) → names ≡ flat_map defines sorts → first_pass 1 [] 0 sorts ≡ None → second_pass (is_in names) 1 sorts ≡ Some f → netlist_in text ≡ Err f
  second-fault names f e h g =
      ap (λ o. unless o (unless (second_pass (is_in (flat_map defines sorts)) 1 sorts) (unless (third_pass sorts) (rest_by (flat_map defines sorts))))) h
      ∙ ap (λ ns. unless (second_pass (is_in ns) 1 sorts) (unless (third_pass sorts) (rest_by ns))) (sym e) ∙ ap (λ o. unless o (unless (third_pass sorts) (rest_by names))) g

  pub third-fault : (names : List Name) (f : BenchFault) → names ≡ flat_map defines sorts → first_pass 1 [] 0 sorts ≡ None → second_pass (is_in names) 1 sorts ≡ None → third_pass sorts ≡ Some f → netlist_in text ≡ Err f
  third-fault names f e h g k =
      ap (λ o. unless o (unless (second_pass (is_in (flat_map defines sorts)) 1 sorts) (unless (third_pass sorts) (rest_by (flat_map defines sorts))))) h
      ∙ ap (λ ns. unless (second_pass (is_in ns) 1 sorts) (unless (third_pass sorts) (rest_by ns))) (sym e) ∙ ap (λ o. unless o (unless (third_pass sorts) (rest_by names))) g
      ∙ ap (λ o. unless o (rest_by names)) k

  pub whole : (names : List Name) (items : List Item) (numbers outputs : List ℕ) (r : Result Netlist BenchFault) → names ≡ flat_map defines sorts → first_pass 1 [] 0 sorts ≡ None → second_pass (is_in names) 1 sorts ≡ None → third_pass sorts ≡ None
      → items ≡ flat_map (items_in names) sorts → numbers ≡ lines_from 1 sorts → outputs ≡ map (index_of names) (flat_map puts_out sorts) → placed_netlist items numbers outputs ≡ r → netlist_in text ≡ r
  whole names items numbers outputs r e h g k a b c d =
      ap (λ o. unless o (unless (second_pass (is_in (flat_map defines sorts)) 1 sorts) (unless (third_pass sorts) (rest_by (flat_map defines sorts))))) h
      ∙ ap (λ ns. unless (second_pass (is_in ns) 1 sorts) (unless (third_pass sorts) (rest_by ns))) (sym e) ∙ ap (λ o. unless o (unless (third_pass sorts) (rest_by names))) g
      ∙ ap (λ o. unless o (rest_by names)) k
      ∙ ap (λ is. placed_netlist is (lines_from 1 sorts) (map (index_of names) (flat_map puts_out sorts))) (sym a)
      ∙ ap (λ ns. placed_netlist items ns (map (index_of names) (flat_map puts_out sorts))) (sym b)
      ∙ ap (placed_netlist items numbers) (sym c) ∙ d

-- an output is named, or none is
pub third-none : (lines : List LineSort) (count : ℕ) → length (flat_map puts_out lines) ≡ count → (count == 0) ≡ false → third_pass lines ≡ None
third-none lines count e h = ap (λ b. cond b (Some (fault_at (length lines + 1) NoOutput)) None) (ap (λ n. n == 0) e ∙ h)

pub third-some : (lines : List LineSort) (count line : ℕ) → length (flat_map puts_out lines) ≡ count → (count == 0) ≡ true → line ≡ length lines + 1 → third_pass lines ≡ Some (fault_at line NoOutput)
third-some lines count line e h at =
    ap (λ b. cond b (Some (fault_at (length lines + 1) NoOutput)) None) (ap (λ n. n == 0) e ∙ h) ∙ ap (λ n. Some (fault_at n NoOutput)) (sym at)

-- How many lines there are

onto_count : (c n : ℕ) (ls : List (List ℕ)) → length ls ≤ n → length (onto_first c ls) ≤ suc n
onto_count c n [] h = omega arith
onto_count c n (l ∷ ls) h = omega (arith, h)

pub lines-few : (text : List ℕ) → length (lines_of text) ≤ length text
lines-few [] = omega arith
lines-few (c ∷ cs) = elim (c == 10) as (λ t. length (cond t ([] ∷ lines_of cs) (onto_first c (lines_of cs))) ≤ suc (length cs)) [
  | true ↦ omega (arith, lines-few cs)
  | false ↦ onto_count c (length cs) (lines_of cs) (lines-few cs)
]

-- The order has items alone

module _ (items : List Item) where
  within-more : (xs : List ℕ) (d : ℕ) → AllByRecursion (λ e. e < length items) xs → d < length items → AllByRecursion (λ e. e < length items) (xs ++ d ∷ [])
  within-more [] d h lt = (lt, tt)
  within-more (x ∷ xs) d h lt = (h.0, within-more xs d h.1 lt)

  within-step : (k : ℕ) (placed : List ℕ) → AllByRecursion (λ e. e < length items) placed
      → (AllByRecursion (λ e. e < length items) (placed ++ next_of items placed ∷ []) → AllByRecursion (λ e. e < length items) (placed_after k items (placed ++ next_of items placed ∷ [])))
      → (b : Bool) → (next_of items placed == length items) ≡ b → AllByRecursion (λ e. e < length items) (cond b placed (placed_after k items (placed ++ next_of items placed ∷ [])))
  within-step k placed h ih true e = h
  within-step k placed h ih false e = ih (within-more placed (next_of items placed) h (next-ready items placed e).0)

  within-after : (k : ℕ) (placed : List ℕ) → AllByRecursion (λ e. e < length items) placed → AllByRecursion (λ e. e < length items) (placed_after k items placed)
  unfolding placed_after
  within-after zero placed h = h
  within-after (suc k) placed h = within-step k placed h (λ more. within-after k (placed ++ next_of items placed ∷ []) more) (next_of items placed == length items) refl

  inputs-within : (a n : ℕ) → a + n ≤ length items → AllByRecursion (λ e. e < length items) (filter (λ d. is_input (item_at items d)) (range_with_len a n))
  inputs-within a zero h = tt
  inputs-within a (suc n) h = step a n (inputs-within (a + 1) n (omega (arith, h))) h (is_input (item_at items a))
    where
      step : (a n : ℕ) → AllByRecursion (λ e. e < length items) (filter (λ d. is_input (item_at items d)) (range_with_len (a + 1) n)) → a + suc n ≤ length items → (b : Bool)
          → AllByRecursion (λ e. e < length items) (cond b (a ∷ filter (λ d. is_input (item_at items d)) (range_with_len (a + 1) n)) (filter (λ d. is_input (item_at items d)) (range_with_len (a + 1) n)))
      step a n ih h true = (omega (arith, h), ih)
      step a n ih h false = ih

  pub order-within : All (λ e. e < length items) (order_of items)
  order-within = All-from_recursion (λ e. e < length items) (order_of items) (within-after (length items) (inputs_of items) (inputs-within 0 (length items) (omega arith)))
