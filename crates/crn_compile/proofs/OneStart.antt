-- There is one first list of species.
use Rattle.std.proofs.Common.{◌≡◌, ℕ, ◌*◌, ◌/◌, ◌%◌, ◌<◌, ◌≤◌, inl, inr, List, map, Some, Bool, true, false, sym, ap, ◌∙◌, arith, get_or, ◌==◌, if◌then◌else◌}
use Rattle.std.specs.List.{range_with_len}
use Rattle.std.proofs.lemmas.Bool.{cases_lt, lt-ltb, eqb-true, eq-eqb, le-ltb}
use Rattle.std.proofs.lemmas.Nat.{div-add-mod', div_below, mod_below}
use Rattle.std.proofs.lemmas.List.{same_lists, get_or_default}
use Rattle.std.proofs.lemmas.List.Sums.{passes_at_first, fails_before_first}
use Rattle.std.proofs.lemmas.List.FromFn.{length-range_with_len, length-map-range_with_len, get_or-range_with_len, get_or-map-range_with_len}
use Rattle.surf_kinds.specs.declared.site.SpeciesId.{SpeciesId}
use Rattle.circuit_text.specs.declared.kinds.Net.{Net}
use Rattle.circuit_text.specs.Values.{bit}
use Rattle.gate_layout.specs.Table.{Table, Spot, IsSpot, role_at}
use Rattle.crn_compile.specs.Cells.{Wire}
use Rattle.crn_compile.specs.Species.{id_of}
use Rattle.crn_compile.specs.Start.{site, no_species, blank_cell, IsStart, input_at, start_cell, start_cells}
use Rattle.crn_compile.proofs.Grid.{has_cols}

-- the test of an input's cell
abbrev is_at : Table → ℕ → ℕ → Bool
is_at t k i = site t (t.input_cell i) == k

found : (t : Table) (k : ℕ) → input_at t k < t.inputs → site t (t.input_cell (input_at t k)) ≡ k
found t k lt =
    let p = input_at t k in
    let h : is_at t k (get_or (range_with_len 0 t.inputs) p 0) ≡ true = passes_at_first (is_at t k) (range_with_len 0 t.inputs) 0 (omega (arith, lt, length-range_with_len 0 t.inputs)) in
    let e : get_or (range_with_len 0 t.inputs) p 0 ≡ p = get_or-range_with_len 0 t.inputs p 0 lt ∙ omega arith in
    eqb-true (site t (t.input_cell p)) k (ap (is_at t k) (sym e) ∙ h)

none : (t : Table) (k i : ℕ) → t.inputs ≤ input_at t k → i < t.inputs → site t (t.input_cell i) ≡ k → ⊥
none t k i le lt same =
    let h : is_at t k (get_or (range_with_len 0 t.inputs) i 0) ≡ false = fails_before_first (is_at t k) (range_with_len 0 t.inputs) i 0 (omega (arith, le, lt)) in
    let e : get_or (range_with_len 0 t.inputs) i 0 ≡ i = get_or-range_with_len 0 t.inputs i 0 lt ∙ omega arith in
    let g : true ≡ false = sym (eq-eqb (site t (t.input_cell i)) k same) ∙ ap (is_at t k) (sym e) ∙ h in
    cc

each : (nets : List Net) (inputs : List Bool) (t : Table) (S : List SpeciesId) → IsStart nets inputs t S → (k : ℕ) → k < t.rows * t.cols → get_or S k no_species ≡ start_cell nets inputs t k
each nets inputs t S start k inside = elim (cases_lt (input_at t k) t.inputs) [
  | inl lt ↦
      let e : get_or S k no_species ≡ id_of (Wire (Some (bit inputs (input_at t k)))) = ap (λ n. get_or S n no_species) (sym (found t k lt)) ∙ start.known (input_at t k) lt in
      e ∙ ap (λ b. if b then id_of (Wire (Some (bit inputs (input_at t k)))) else id_of (blank_cell nets (t.role (k / t.cols) (k % t.cols)))) (sym (lt-ltb (input_at t k) t.inputs lt))
  | inr le ↦
      let h = has_cols k t.rows t.cols inside in
      let s : Spot = record { row = k / t.cols; col = k % t.cols } in
      let within : IsSpot t s = (div_below k t.cols t.rows h inside, mod_below k t.cols h) in
      let here : site t s ≡ k = div-add-mod' k t.cols in
      let e : get_or S k no_species ≡ id_of (blank_cell nets (role_at t s)) = ap (λ n. get_or S n no_species) (sym here) ∙ start.rest s within (λ i. none t k i.0 le i.1 (ap (site t) i.2 ∙ here)) in
      e ∙ ap (λ b. if b then id_of (Wire (Some (bit inputs (input_at t k)))) else id_of (blank_cell nets (t.role (k / t.cols) (k % t.cols)))) (sym (le-ltb (input_at t k) t.inputs le))
]

pub start_is : (nets : List Net) (inputs : List Bool) (t : Table) (S : List SpeciesId) → IsStart nets inputs t S → S ≡ start_cells nets inputs t
unfolding start_cells
start_is nets inputs t S start =
    same_lists S (map (start_cell nets inputs t) (range_with_len 0 (t.rows * t.cols))) (start.size ∙ sym (length-map-range_with_len (start_cell nets inputs t) 0 (t.rows * t.cols)))
    (λ k d lt.
    let inside : k < t.rows * t.cols = omega (arith, lt, start.size) in
    get_or_default S k d no_species lt ∙ each nets inputs t S start k inside ∙ sym (get_or-map-range_with_len (start_cell nets inputs t) 0 (t.rows * t.cols) k k d inside (omega arith)))
