-- Blank cells by their roles, and the cells of inputs.
use Rattle.std.proofs.Common.{◌≡◌, ℕ, suc, ◌+◌, ◌*◌, ◌/◌, ◌%◌, ◌<◌, ◌≤◌, List, [], ◌∷◌, ◌++◌, length, set, Option, Some, None, Bool, true, false, refl, sym, ap, ◌∙◌, subst, arith, get_or, inl, inr}
use Rattle.std.specs.Prelude.{slice_get}
use Rattle.std.specs.List.{AllByRecursion}
use Rattle.std.proofs.lemmas.Option.{same_Some, slice_get_within, get_or_from_slice_get}
use Rattle.std.proofs.lemmas.Bool.{cases_lt, cases_eq}
use Rattle.std.proofs.lemmas.Nat.{div-add-mod', div_below, mod_below}
use Rattle.std.proofs.lemmas.List.{get_or_append_left, length-set, get_or-set_same, get_or-set_other}
use Rattle.std.proofs.Math.Seq.{get_or-append_seam}
use Rattle.surf_kinds.specs.declared.site.SpeciesId.{SpeciesId}
use Rattle.circuit_text.specs.declared.kinds.GateOp.{GateOp}
use Rattle.circuit_text.specs.declared.kinds.GateOp.TheVariants.{And, Or, Xor, Nand, Nor, Xnor, Not, Buf}
use Rattle.circuit_text.specs.declared.kinds.Net.{Net}
use Rattle.circuit_text.specs.declared.kinds.Net.TheVariants as net
use Rattle.circuit_text.specs.Values.{bit, gates_of, input_count}
use Rattle.circuit_text.specs.Circuits.{NetList}
use Rattle.gate_layout.specs.declared.role.Role.{Role}
use Rattle.gate_layout.specs.declared.role.Role.TheVariants as role
use Rattle.gate_layout.specs.Nets.{net_of, AreNumbered}
use Rattle.gate_layout.specs.Table.{Table, Spot, IsSpot, role_at, IsNamed, HasEnds}
use Rattle.crn_compile.specs.Cells.{Neither, Wire}
use Rattle.crn_compile.specs.Species.{number_of, known_number, gate_number, id_of}
use Rattle.crn_compile.specs.Start.{site, no_species, species_at, blank_gate, blank_cell, AreOfTable, IsStart}
use Rattle.crn_compile.proofs.Grid.{has_cols}
use Rattle.crn_compile.proofs.Goes.{site_row, site_col, site_inside}
use Rattle.crn_compile.proofs.Starts.{IsGate, gate_of, net_of_input, spot_eq, IsInputBelow, input_or}

neither_number : (op : GateOp) → known_number op Neither ≡ gate_number op
neither_number And = refl
neither_number op = refl

-- the gate that a role names
the_net : (nets : List Net) (g n : ℕ) → slice_get (gates_of nets) g ≡ Some n → net_of nets g ≡ n
the_net nets g n at = get_or_from_slice_get (gates_of nets) g n 0 at

pub the_gate : (nets : List Net) (r : Role) (g n : ℕ) → IsNamed nets r → r ≡ role.Gate g → slice_get (gates_of nets) g ≡ Some n → (x : Net) × (slice_get nets n ≡ Some x) × IsGate x
the_gate nets r g n named is at =
    let x = gate_of nets g (subst (IsNamed nets) is named) in
    (x.0, ap (slice_get nets) (sym (the_net nets g n at)) ∙ x.1, x.2)

pub gate_inside : (nets : List Net) (r : Role) (g n : ℕ) → IsNamed nets r → r ≡ role.Gate g → slice_get (gates_of nets) g ≡ Some n → n < length nets
gate_inside nets r g n named is at = let x = the_gate nets r g n named is at in slice_get_within nets n x.0 x.1

gate_number_in : (op : GateOp) (a : ℕ) (b : Option ℕ) → gate_number op ≡ number_of (blank_gate (Some (net.Gate op a b)))
gate_number_in op a None = refl
gate_number_in op a (Some b) = sym (neither_number op)

pub gate_blank_number : (nets : List Net) (r : Role) (g n : ℕ) (x : Net) (op : GateOp) (a : ℕ) (b : Option ℕ) → r ≡ role.Gate g → slice_get (gates_of nets) g ≡ Some n → slice_get nets n ≡ Some x → x ≡ net.Gate op a b
    → gate_number op ≡ number_of (blank_cell nets r)
gate_blank_number nets r g n x op a b is at own e =
    let here : slice_get nets (net_of nets g) ≡ Some (net.Gate op a b) = ap (slice_get nets) (the_net nets g n at) ∙ own ∙ ap (λ y. Some y) e in
    gate_number_in op a b ∙ ap (λ o. number_of (blank_gate o)) (sym here) ∙ ap (λ q. number_of (blank_cell nets q)) (sym is)

pub no_input_gate : (nets : List Net) (r : Role) (g n number : ℕ) (x : Net) → IsNamed nets r → r ≡ role.Gate g → slice_get (gates_of nets) g ≡ Some n → slice_get nets n ≡ Some x → x ≡ net.Input number → ⊥
no_input_gate nets r g n number x named is at own e =
    let y = the_gate nets r g n named is at in
    let same : y.0 ≡ net.Input number = same_Some y.0 x (sym y.1 ∙ own) ∙ e in
    subst IsGate same y.2

-- the numbers of blank cells are species'
gate_small : (op : GateOp) → gate_number op < 56
gate_small And = omega arith
gate_small Or = omega arith
gate_small Xor = omega arith
gate_small Nand = omega arith
gate_small Nor = omega arith
gate_small Xnor = omega arith
gate_small Not = omega arith
gate_small Buf = omega arith

blank_gate_small : (o : Option Net) → number_of (blank_gate o) < 56
blank_gate_small (Some (net.Gate op a None)) = gate_small op
blank_gate_small (Some (net.Gate op a (Some b))) = subst (λ n. n < 56) (sym (neither_number op)) (gate_small op)
blank_gate_small (Some (net.Input number)) = omega arith
blank_gate_small None = omega arith

blank_small : (nets : List Net) (r : Role) → number_of (blank_cell nets r) < 56
blank_small nets role.Inert = omega arith
blank_small nets (role.Wire n) = omega arith
blank_small nets (role.Vert n) = omega arith
blank_small nets (role.PinA n) = omega arith
blank_small nets (role.PinB n) = omega arith
blank_small nets (role.Cross n m) = omega arith
blank_small nets (role.Gate g) = blank_gate_small (slice_get nets (net_of nets g))

wire_small : (d : Bool) → number_of (Wire (Some d)) < 56
wire_small false = omega arith
wire_small true = omega arith

start_small_at : (nets : List Net) (inputs : List Bool) (t : Table) (S : List SpeciesId) → IsStart nets inputs t S → (k : ℕ) → k < length S → (get_or S k no_species).0 < 56
start_small_at nets inputs t S start k lt =
    let inside : k < t.rows * t.cols = omega (arith, lt, start.size) in
    let h = has_cols k t.rows t.cols inside in
    let s : Spot = record { row = k / t.cols; col = k % t.cols } in
    let within : IsSpot t s = (div_below k t.cols t.rows h inside, mod_below k t.cols h) in
    let e : site t s ≡ k = div-add-mod' k t.cols in
    subst (λ n. (get_or S n no_species).0 < 56) e
    (elim (input_or t s) [
      | inl i ↦
          let w : species_at t S s ≡ id_of (Wire (Some (bit inputs i.0))) = ap (species_at t S) (sym i.2) ∙ start.known i.0 i.1 in
          subst (λ (x : SpeciesId). x.0 < 56) (sym w) (wire_small (bit inputs i.0))
      | inr none ↦ subst (λ (x : SpeciesId). x.0 < 56) (sym (start.rest s within none)) (blank_small nets (role_at t s))
    ])

all_small : (S : List SpeciesId) → ((k : ℕ) → k < length S → (get_or S k no_species).0 < 56) → AllByRecursion (λ s. s.0 < 56) S
all_small [] h = tt
all_small (s ∷ S) h = (h 0 (omega arith), all_small S (λ k lt. h (suc k) (omega (arith, lt))))

pub start_small : (nets : List Net) (inputs : List Bool) (t : Table) (S : List SpeciesId) → IsStart nets inputs t S → AllByRecursion (λ s. s.0 < 56) S
start_small nets inputs t S start = all_small S (start_small_at nets inputs t S start)

-- one more site
pub one_more : (nets : List Net) (t : Table) (S : List SpeciesId) (x : SpeciesId) → AreOfTable nets t S (length S) → x ≡ id_of (blank_cell nets (t.role (length S / t.cols) (length S % t.cols)))
    → AreOfTable nets t (S ++ x ∷ []) (length S + 1)
one_more nets t S x are is k lt = elim (cases_lt k (length S)) [
  | inl below ↦ get_or_append_left S (x ∷ []) no_species k below ∙ are k below
  | inr le ↦
      let e : length S ≡ k = omega (arith, lt, le) in
      ap (λ n. get_or (S ++ x ∷ []) n no_species) (sym e) ∙ get_or-append_seam S x [] no_species ∙ is ∙ ap (λ n. id_of (blank_cell nets (t.role (n / t.cols) (n % t.cols)))) e
]

-- the cells of the first inputs have their bits
pub record IsMarked (nets : List Net) (inputs : List Bool) (t : Table) (S : List SpeciesId) (n : ℕ) : Type 0 where
  pub size : length S ≡ t.rows * t.cols
  pub known : (i : ℕ) → i < n → species_at t S (t.input_cell i) ≡ id_of (Wire (Some (bit inputs i)))
  pub rest : (s : Spot) → IsSpot t s → (IsInputBelow t n s → ⊥) → species_at t S s ≡ id_of (blank_cell nets (role_at t s))

pub none_marked : (nets : List Net) (inputs : List Bool) (t : Table) (S : List SpeciesId) → length S ≡ t.rows * t.cols → AreOfTable nets t S (length S) → IsMarked nets inputs t S 0
none_marked nets inputs t S size are = record {
  size = size;
  known = λ i lt. absurd (omega (arith, lt));
  rest = λ s within none.
      let e = are (site t s) (omega (arith, site_inside t s within, size)) in
      e ∙ ap (λ r. id_of (blank_cell nets (t.role r (site t s % t.cols)))) (site_row t s within) ∙ ap (λ c. id_of (blank_cell nets (t.role s.row c))) (site_col t s within);
}

pub all_marked : (nets : List Net) (inputs : List Bool) (t : Table) (S : List SpeciesId) (n : ℕ) → n ≡ t.inputs → IsMarked nets inputs t S n → IsStart nets inputs t S
all_marked nets inputs t S n e m = record {
  size = m.size;
  known = λ i lt. m.known i (omega (arith, lt, e));
  rest = λ s within none. m.rest s within (λ i. none (i.0, omega (arith, i.1, e), i.2));
}

-- two cells at one site are one
same_site : (t : Table) (s u : Spot) → IsSpot t s → IsSpot t u → site t s ≡ site t u → s ≡ u
same_site t s u hs hu e = spot_eq s u (sym (site_row t s hs) ∙ ap (λ n. n / t.cols) e ∙ site_row t u hu) (sym (site_col t s hs) ∙ ap (λ n. n % t.cols) e ∙ site_col t u hu)

-- the cell of an input is one of the table
pub input_within : (c : NetList) (t : Table) (i : ℕ) → AreNumbered c.nets → HasEnds c t → i < input_count c.nets → IsSpot t (t.input_cell i)
input_within c t i numbered ends lt = let n = net_of_input c.nets i numbered lt in (ends.starts n.0 i n.1).0

pub mark_input : (c : NetList) (inputs : List Bool) (t : Table) (S : List SpeciesId) (i : ℕ) (v : SpeciesId) → AreNumbered c.nets → HasEnds c t → i < input_count c.nets → v ≡ id_of (Wire (Some (bit inputs i)))
    → IsMarked c.nets inputs t S i → IsMarked c.nets inputs t (set S (site t (t.input_cell i)) v) (i + 1)
mark_input c inputs t S i v numbered ends lt is m =
    let here = input_within c t i numbered ends lt in
    let inside : site t (t.input_cell i) < length S = let l = site_inside t (t.input_cell i) here in omega (arith, l, m.size) in
    record {
      size = length-set S (site t (t.input_cell i)) v ∙ m.size;
      known = λ k below. elim (cases_eq k i) [
        | inl same ↦
            ap (λ n. species_at t (set S (site t (t.input_cell i)) v) (t.input_cell n)) same ∙ get_or-set_same S (site t (t.input_cell i)) v no_species inside ∙ is ∙ ap (λ n. id_of (Wire (Some (bit inputs n)))) (sym same)
        | inr other ↦
            let less : k < input_count c.nets = omega (arith, below, other, lt) in
            let there = input_within c t k numbered ends less in
            get_or-set_other S (site t (t.input_cell i)) (site t (t.input_cell k)) v no_species
            (λ e. other (ends.distinct k i (omega (arith, less, ends.inputs)) (omega (arith, lt, ends.inputs)) (same_site t (t.input_cell k) (t.input_cell i) there here e)))
            ∙ m.known k (omega (arith, below, other))
      ];
      rest = λ s within none.
          get_or-set_other S (site t (t.input_cell i)) (site t s) v no_species
          (λ e. none (i, omega arith, same_site t (t.input_cell i) s here within (sym e)))
          ∙ m.rest s within (λ k. none (k.0, omega (arith, k.1), k.2));
    }

-- an output is in some row and some column
pub some_cells : (c : NetList) (t : Table) → HasEnds c t → 1 ≤ length c.outputs → (1 ≤ t.rows) × (1 ≤ t.cols)
some_cells c t ends some = let w = (ends.ends 0 (omega (arith, ends.outputs, some))).0 in (omega (arith, w.0), omega (arith, w.1))
